-- The lowest blocks that may be purged, counted: up to a place, and until so many bytes are free. Inside Macintosh: Memory,
-- chapter 1, "Purging and Reallocating Relocatable Blocks".
use Rattle.std.specs.Prelude.{ℕ, ◌+◌, ◌-◌, zero, suc, Bool, if◌then◌else◌, List, [], ◌∷◌, Option, Some, None}
use Rattle.block_store.specs.Block.{Block, size}
use Rattle.block_store.specs.Room.{may_be_purged}
use Rattle.block_store.specs.Run.{in_run}

-- How many of the lowest blocks that may be purged free so many bytes; all of them where they free fewer.
abbrev pub purges_for : (Block → Bool) → ℕ → List Block → ℕ
purges_for spared zero blocks = 0
purges_for spared (suc bytes) [] = 0
purges_for spared (suc bytes) (b ∷ above) =
    if may_be_purged spared b then suc (purges_for spared (suc bytes - size b) above)
    else purges_for spared (suc bytes) above

-- The number of blocks that may be purged, of those that begin in so many bytes at the bottom.
abbrev pub count_within : (Block → Bool) → ℕ → List Block → ℕ
count_within spared zero blocks = 0
count_within spared (suc bytes) [] = 0
count_within spared (suc bytes) (b ∷ above) =
    (if may_be_purged spared b then 1 else 0) + count_within spared (suc bytes - size b) above

-- How many of the lowest blocks of a run that may be purged free so many bytes, after `done` others; none where they free
-- fewer. The run ends at the first block that is in no run.
abbrev pub run_purges_for : (Block → Bool) → ℕ → ℕ → List Block → Option ℕ
run_purges_for spared done zero blocks = Some done
run_purges_for spared done (suc bytes) [] = None
run_purges_for spared done (suc bytes) (b ∷ above) =
    if may_be_purged spared b then run_purges_for spared (suc done) (suc bytes - size b) above
    else (if in_run b then run_purges_for spared done (suc bytes) above else None)
