use Rattle.std.specs.Prelude.{◌≡◌, ℕ, false, List, [], ◌∷◌}
use Rattle.block_store.specs.Block.{Block, free_of}
use Rattle.block_store.specs.Inner.Stretch.{is_free}

-- The last of some blocks, where more blocks may become free.

-- The size of the last block where it is a free block, and 0 where it is another; n where there is no block.
abbrev pub last_free : ℕ → List Block → ℕ
last_free n [] = n
last_free n (b ∷ blocks) = last_free (free_of b) blocks

-- The last block is no free block.
abbrev pub Closed : List Block → Type 0
Closed [] = Unit {0}
Closed (b ∷ []) = is_free b ≡ false
Closed (b ∷ c ∷ blocks) = Closed (c ∷ blocks)
