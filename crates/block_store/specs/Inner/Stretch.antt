use Rattle.std.specs.Prelude.{ℕ, Bool, true, false, ◌||◌, ◌==◌}
use Rattle.std.specs.Prelude.{if◌then◌else◌}
use Rattle.block_store.specs.Block.{Block, Free, Nonrelocatable, Masters, Relocatable, size, is_relocatable}
use Rattle.block_store.specs.declared.sparing.Sparing.{Sparing}
use Rattle.block_store.specs.declared.sparing.Sparing.TheVariants as sparing

-- How a search sees a block.

abbrev pub is_free : Block → Bool
is_free (Free n) = true
is_free (Nonrelocatable id content) = false
is_free Masters = false
is_free (Relocatable id flags content) = false

-- The block as a search sees it first: a block that counts as free is a free block.
abbrev pub opened_block : Sparing → Block → Block
opened_block sparing.Nothing b = b
opened_block (sparing.One slot) b = b
opened_block (sparing.Two slot other) b = b
opened_block (sparing.Freed slot) b = if is_relocatable slot b then Free (size b) else b

-- The call names the master pointer.
abbrev pub names : Sparing → ℕ → Bool
names sparing.Nothing number = false
names (sparing.One slot) number = number == slot
names (sparing.Two slot other) number = number == slot || number == other
names (sparing.Freed slot) number = number == slot
