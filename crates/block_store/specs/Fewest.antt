-- The least number of purges after which a run has enough free bytes. Inside Macintosh: Memory, chapter 1, "Purging and
-- Reallocating Relocatable Blocks".
use Rattle.std.specs.Prelude.{◌≡◌, ◌<◌, ◌&&◌, ℕ, Bool, true, false, is_some, List, Option, Some, None, min}
use Rattle.block_store.specs.Block.{Block, is_relocatable}
use Rattle.block_store.specs.Run.{has, has_free, run_spot}
use Rattle.block_store.specs.Sparing.{purged}
use Rattle.block_store.specs.declared.sparing.Sparing.{Sparing}

-- After so many purges a run has enough free bytes.
abbrev pub serves : ℕ → Sparing → List Block → ℕ → Bool
serves enough n zone purges = is_some (run_spot (has_free enough) (purged purges n zone))

-- After so many purges the run of the block of a master pointer has enough free bytes.
abbrev pub serves_block : ℕ → ℕ → Sparing → List Block → ℕ → Bool
serves_block number enough n zone purges =
    is_some (run_spot (λ run. has (is_relocatable number) run && has_free enough run) (purged purges n zone))

-- No smaller number passes a test.
abbrev pub NoneBelow : (ℕ → Bool) → ℕ → Type 0
NoneBelow test n = (k : ℕ) → k < n → test k ≡ false

-- The least number of purges that passes a test.
pub record IsFewest (test : ℕ → Bool) (purges : ℕ) : Type 0 where
  pub there : test purges ≡ true
  pub below : NoneBelow test purges

-- The smaller of two numbers, of those that are given.
abbrev pub smaller : Option ℕ → Option ℕ → Option ℕ
smaller None other = other
smaller (Some first) None = Some first
smaller (Some first) (Some second) = Some (min first second)
