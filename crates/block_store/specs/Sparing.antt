use Rattle.std.specs.Prelude.{ℕ, Bool, false, ◌||◌, List}
use Rattle.block_store.specs.Block.{Block, is_relocatable}
use Rattle.block_store.specs.Room.{purge, count_of}
use Rattle.block_store.specs.Grow.{freed}
use Rattle.block_store.specs.declared.sparing.Sparing.{Sparing}
use Rattle.block_store.specs.declared.sparing.Sparing.TheVariants as sparing

-- The block isn't purged by the search.
abbrev pub spared : Sparing → Block → Bool
spared sparing.Nothing b = false
spared (sparing.One slot) b = is_relocatable slot b
spared (sparing.Two slot other) b = is_relocatable slot b || is_relocatable other b
spared (sparing.Freed slot) b = false

-- The zone as a search sees it first: a block that counts as free is a free block.
abbrev pub opened : Sparing → List Block → List Block
opened sparing.Nothing zone = zone
opened (sparing.One slot) zone = zone
opened (sparing.Two slot other) zone = zone
opened (sparing.Freed slot) zone = freed (is_relocatable slot) zone

-- The zone after k purges.
-- See decision 9 (a search counts purges, and purges nothing).
abbrev pub purged : ℕ → Sparing → List Block → List Block
purged k sparing zone = purge k (spared sparing) (opened sparing zone)

-- The number of blocks that the search may purge.
abbrev pub most_purges : Sparing → List Block → ℕ
most_purges sparing zone = count_of (spared sparing) (opened sparing zone)
