-- A stretch of a zone that is written anew.
use Rattle.std.specs.Prelude.{◌≡◌, ℕ, Bool, ◌+◌, ◌≤◌, ◌<◌, List, ◌++◌, take, drop, length}
use Rattle.block_store.specs.Block.{Block, sizes}
use Rattle.zone_bytes.specs.Layout.{names, Each, IsSlot}
use Rattle.zone_bytes.specs.Settling.{Lies}
use Rattle.block_store.specs.declared.measures.TheConstants.{GREATEST_ZONE}

-- The bytes below `lo` and those from `hi` on keep their values.
pub record SameOutside (lo hi : ℕ) (old new : List ℕ) : Type 0 where
  pub kept : length new ≡ length old
  pub ordered : (lo ≤ hi) × (hi ≤ length old)
  pub low : take lo new ≡ take lo old
  pub high : drop hi new ≡ drop hi old

-- A stretch of a zone's blocks, and the blocks below and above it.
pub record Splice : Type 0 where
  pub resource : ℕ → Bool
  pub below : List Block
  pub here : List Block
  pub above : List Block

-- The stretch of `zone` is from `bottom` to `top` in `xs`, and has no slots.
pub record IsSplice (zone : Splice) (bottom top : ℕ) (xs : List ℕ) : Type 0 where
  pub lies : Lies zone.resource (zone.below ++ (zone.here ++ zone.above)) xs
  pub low : sizes zone.below ≡ bottom
  pub high : bottom + sizes zone.here ≡ top
  pub some : bottom < top
  pub small : length xs ≤ GREATEST_ZONE
  pub slots : Each (λ s. IsSlot s (zone.below ++ (zone.here ++ zone.above))) (names zone.below) × Each
      (λ s. IsSlot s (zone.below ++ (zone.here ++ zone.above))) (names zone.above)
  pub no_masters : (s : ℕ) → IsSlot s zone.here → ⊥
