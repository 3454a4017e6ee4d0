use Rattle.std.specs.Prelude.{ℕ, zero, suc, Bool, Option, Some, None, if◌then◌else◌}
use Rattle.block_store.specs.Block.{Block}
use Rattle.block_store.specs.Room.{may_be_purged}
use Rattle.block_store.specs.Inner.Stretch.{is_free}

-- How a search counts the purges that are left.

-- The purges left after a block that is free or is purged; none where the block stays.
abbrev pub left_past : (Block → Bool) → ℕ → Block → Option ℕ
left_past spared zero b = if is_free b then Some 0 else None
left_past spared (suc k) b = if may_be_purged spared b then Some k else (if is_free b then Some (suc k) else None)
