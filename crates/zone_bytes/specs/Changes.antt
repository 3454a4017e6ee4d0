-- Blocks that begin at places of a zone, and blocks that became others.
use Rattle.std.specs.Prelude.{◌≡◌, ℕ, ◌+◌, ◌⊎◌}
use Rattle.std.specs.Prelude.{List, [], ◌∷◌, ◌++◌}
use Rattle.block_store.specs.Block.{Block, size, sizes}

-- The relation `R` holds of each of the blocks from the place `at` on and its place.
abbrev pub AtEach : (ℕ → Block → Type 0) → ℕ → List Block → Type 0
AtEach R at [] = Unit {0}
AtEach R at (b ∷ above) = R at b × AtEach R (at + size b) above

-- One of the blocks from the place `at` on begins at `place`, or the blocks end there.
abbrev pub Begins : ℕ → ℕ → List Block → Type 0
Begins place at [] = place ≡ at
Begins place at (b ∷ above) = (place ≡ at) ⊎ Begins place (at + size b) above

-- The blocks from `lo` to `hi` became others of as many bytes.
pub record Replaced (lo hi : ℕ) (old new : List Block) : Type 0 where
  pub below : List Block
  pub here : List Block
  pub there : List Block
  pub above : List Block
  pub was : old ≡ below ++ (here ++ above)
  pub is : new ≡ below ++ (there ++ above)
  pub low : sizes below ≡ lo
  pub high : lo + sizes here ≡ hi
  pub span : sizes there ≡ sizes here

-- The block at `place` became another of as many bytes.
pub record Became (place : ℕ) (old new : List Block) : Type 0 where
  pub below : List Block
  pub here : Block
  pub there : Block
  pub above : List Block
  pub was : old ≡ below ++ here ∷ above
  pub is : new ≡ below ++ there ∷ above
  pub low : sizes below ≡ place
  pub span : size there ≡ size here
