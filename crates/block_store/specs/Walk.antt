use Rattle.std.specs.Prelude.{◌≡◌, ℕ, Option, Some, None, List, [], ◌∷◌}
use Rattle.mac_words.specs.Size.{padded}
use Rattle.block_store.specs.declared.measures.TheConstants.{MASTERS_SIZE}
use Rattle.block_store.specs.Block.{Block}
use Rattle.block_store.specs.Seen.{seen}
use Rattle.block_store.specs.declared.sparing.Seen.{Seen}
use Rattle.block_store.specs.declared.sparing.Seen.TheVariants as see

-- The blocks that a walk reads.

-- The first of the blocks is read, and the blocks above it are still to be read; none is read where there is no block.
abbrev pub Tells : List Block → Option Seen → List Block → Type 0
Tells [] told after = (told ≡ None) × (after ≡ [])
Tells (b ∷ above) told after = (told ≡ Some (seen b)) × (after ≡ above)

-- The physical size of a block, from what is seen of the block.
abbrev pub seen_size : Seen → ℕ
seen_size (see.Free n) = n
seen_size (see.Nonrelocatable n) = padded n
seen_size see.Masters = MASTERS_SIZE
seen_size (see.Relocatable slot flags n) = padded n
