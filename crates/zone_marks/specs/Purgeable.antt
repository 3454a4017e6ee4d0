-- The bytes that blocks would free if they were purged. Inside Macintosh: Memory, chapter 1, "Purging and Reallocating
-- Blocks".
use Rattle.std.specs.Prelude.{◌≡◌, ◌<◌, ◌⊎◌, ℕ, false, List}
use Rattle.block_store.specs.Block.{Block, is_purgeable}
use Rattle.zone_bytes.specs.Changes.{AtEach, Begins}

-- A block that begins below `bound` may not be purged.
abbrev pub Stays : ℕ → ℕ → Block → Type 0
Stays bound at b = at < bound → is_purgeable b ≡ false

-- No block of the zone that begins below `bound` may be purged.
abbrev pub NoneGoes : ℕ → List Block → Type 0
NoneGoes bound zone = AtEach (Stays bound) 0 zone

-- A search that purges may begin at the place `from`: a block begins there, and no block up to it may be purged, unless
-- it is the zone's bottom.
pub record MayStart (from : ℕ) (zone : List Block) : Type 0 where
  pub begins : Begins from 0 zone
  pub bound : ℕ
  pub none : NoneGoes bound zone
  pub low : (from < bound) ⊎ (from ≡ 0)
