use Rattle.std.specs.Prelude.{ℕ, ◌-◌, ◌==◌, Bool, not, ◌&&◌, Option, Some, None, List, [], ◌∷◌, ◌++◌, if◌then◌else◌}
use Rattle.std.specs.Prelude.{nat_le, option_and_then, zero, suc}
use Rattle.std.specs.Option.{option_map, option_or}
use Rattle.block_store.specs.Block.{Block, Free, size, count, is_purgeable, is_room, tidy, rename, rename_block}
use Rattle.block_store.specs.Run.{change_run, has_free, settle, low}

-- A block of a zone, with the blocks below it and the blocks above it.
pub record Spot : Type 0 where
  pub below : List Block
  pub here : Block
  pub above : List Block

-- The block in its place, with one block more at the bottom of the zone.
abbrev pub raised : Block → Spot → Spot
raised b s = record s { below = b ∷ s.below }

-- The block in its place, with the names of all blocks changed.
abbrev pub rename_spot : (ℕ → ℕ) → (ℕ → ℕ) → Spot → Spot
rename_spot f g s = record { below = rename f g s.below; here = rename_block f g s.here; above = rename f g s.above }

-- The lowest block that passes the test, in its place.
abbrev pub spot : (Block → Bool) → List Block → Option Spot
spot test [] = None
spot test (b ∷ above) = if test b then Some (record { below = []; here = b; above = above })
    else option_map (raised b) (spot test above)

-- The block that begins at this distance from the bottom.
abbrev pub spot_at : ℕ → List Block → Option Spot
spot_at place [] = None
spot_at place (b ∷ above) =
    if place == 0 then Some (record { below = []; here = b; above = above })
    else (if nat_le (size b) place then option_map (raised b) (spot_at (place - size b) above) else None)

-- The block that begins at a place, if a place is given.
abbrev pub spot_of : Option ℕ → List Block → Option Spot
spot_of place zone = option_and_then (λ p. spot_at p zone) place

-- The zone with a new block at the lower end of the block in this place, and the bytes that are left as a free block
-- above the new one.
abbrev pub filled : Block → Spot → List Block
filled new s = tidy (s.below ++ new ∷ Free (size s.here - size new) ∷ s.above)

-- The answer at the least of 0 .. n at which there is an answer.
abbrev pub least : {A : Type 0} → (ℕ → Option A) → ℕ → Option A
least answer zero = answer zero
least answer (suc n) = option_or (answer zero) (least (λ k. answer (suc k)) n)

-- The place for a block of p bytes: the lowest free block of at least p bytes; else the lowest run with at least p free
-- bytes is compacted, and the place is its free block.
abbrev pub place : ℕ → List Block → Option Spot
place p zone = option_or (spot (is_room p) zone)
    (option_and_then (spot (is_room p)) (option_map tidy (change_run (has_free p) settle zone)))

-- The zone with a new relocatable block at the lower end of the place for it.
abbrev pub put_in_place : Block → List Block → Option (List Block)
put_in_place new zone = option_map (filled new) (place (size new) zone)

-- The zone with a new nonrelocatable block, or a new master pointer block, at the bottom of the lowest run with enough
-- free bytes.
abbrev pub put_at_base : Block → List Block → Option (List Block)
put_at_base new zone = option_map tidy (change_run (has_free (size new)) (low new) zone)

-- The block may be purged: it is unlocked and purgeable, and the search doesn't spare it.
abbrev pub may_be_purged : (Block → Bool) → Block → Bool
may_be_purged spared b = is_purgeable b && not (spared b)

-- The blocks, of which the k lowest that may be purged are now free blocks.
abbrev pub lowest_purged : ℕ → (Block → Bool) → List Block → List Block
lowest_purged zero spared blocks = blocks
lowest_purged (suc k) spared [] = []
lowest_purged (suc k) spared (b ∷ above) = if may_be_purged spared b then Free (size b) ∷ lowest_purged k spared above
    else b ∷ lowest_purged (suc k) spared above

-- The zone after k purges: the blocks that were purged are joined with their free neighbours.
abbrev pub purge : ℕ → (Block → Bool) → List Block → List Block
purge k spared zone = tidy (lowest_purged k spared zone)

-- The number of blocks that may be purged.
abbrev pub count_of : (Block → Bool) → List Block → ℕ
count_of spared blocks = count (may_be_purged spared) blocks

-- The answer of a try, after as few purges as give an answer.
abbrev pub room : (List Block → Option (List Block)) → (Block → Bool) → List Block → Option (List Block)
room try spared zone = least (λ k. try (purge k spared zone)) (count_of spared zone)
