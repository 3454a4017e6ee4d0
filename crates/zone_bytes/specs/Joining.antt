-- Blocks that are made free, and joined with the free blocks beside them.
use Rattle.std.specs.Prelude.{◌≡◌, ℕ, ◌-◌, ◌≤◌, ◌<◌, ◌⊎◌, Bool, false, List, ◌∷◌, ◌++◌}
use Rattle.block_store.specs.Block.{Block, sizes, free, tidy, is_masters}
use Rattle.block_store.specs.Slot.{Slot, Used}
use Rattle.zone_bytes.specs.Table.{Table, Lays}
use Rattle.zone_bytes.specs.Stepping.{left_in, IsOnWay}

-- One of a zone's blocks, those below it and above it, the zone's slots, and the list of unused slots.
pub record Freeing : Type 0 where
  pub below : List Block
  pub here : Block
  pub above : List Block
  pub slots : ℕ → Slot
  pub unused : List ℕ

-- The block is at the place `at`, and free bytes are from `start` to there.
pub record MayFree (f : Freeing) (start at : ℕ) (xs : List ℕ) : Type 0 where
  pub lays : Lays xs (f.below ++ (free (at - start) ++ f.here ∷ f.above)) f.slots f.unused
  pub low : sizes f.below ≡ start
  pub up : start ≤ at
  pub plain : is_masters f.here ≡ false

-- The block is at `place` in a zone with no two free blocks side by side.
pub record MayRelease (f : Freeing) (place : ℕ) (xs : List ℕ) : Type 0 where
  pub lays : Lays xs (f.below ++ f.here ∷ f.above) f.slots f.unused
  pub low : sizes f.below ≡ place
  pub plain : is_masters f.here ≡ false
  pub tidied : tidy (f.below ++ f.here ∷ f.above) ≡ f.below ++ f.here ∷ f.above

-- The blocks below and above free bytes, the zone's slots, and the list of unused slots.
pub record Joining : Type 0 where
  pub below : List Block
  pub above : List Block
  pub slots : ℕ → Slot
  pub unused : List ℕ

pub record MayJoin (j : Joining) (start at : ℕ) (xs : List ℕ) : Type 0 where
  pub lays : Lays xs (j.below ++ (free (at - start) ++ j.above)) j.slots j.unused
  pub low : sizes j.below ≡ start
  pub some : start < at

-- The slot is that of a handle, in a zone with no two free blocks side by side.
pub record HasHandle (t : Table) (slot : ℕ) (xs : List ℕ) : Type 0 where
  pub lays : Lays xs t.blocks t.slots t.unused
  pub tidied : tidy t.blocks ≡ t.blocks
  pub resource : Bool
  pub used : t.slots slot ≡ Used resource

-- A walk from the place `from` reaches the higher place `place`: a block begins at `from`, or `from` is the bottom.
pub record LeadsUp (from place : ℕ) (xs : List ℕ) : Type 0 where
  pub below : List Block
  pub is : left_in 0 xs ≡ below ++ left_in from xs
  pub low : sizes below ≡ from
  pub under : (from < place) ⊎ (from ≡ 0)
  pub way : IsOnWay from xs
