use Rattle.std.specs.Prelude.{◌≡◌, ℕ, ◌≤◌, ◌*◌, false, length}
use Rattle.std.proofs.Common.{subst, sym}
use Rattle.block_store.specs.Block.{sizes, count, is_masters, is_relocatable, tidy}
use Rattle.block_store.specs.Run.{has}
use Rattle.block_store.specs.Slot.{is_used}
use Rattle.block_store.specs.Compact.{Aligned, Placed}
use Rattle.list_store.specs.Lists.{blocks_of, slots_of}
use Rattle.block_store.specs.declared.measures.TheConstants.{GREATEST_ZONE, SLOTS_A_BLOCK}
use Rattle.list_store.specs.declared.store.ListStore.{ListStore}

pub store-small : (s : ListStore) → sizes (blocks_of s.blocks.items) ≤ GREATEST_ZONE
store-small s = let P : ℕ → Type 0 = λ n. n ≤ GREATEST_ZONE in subst P (sym s.covered) s.small

pub store-masters : (s : ListStore) → length s.slots.items ≡ SLOTS_A_BLOCK * count is_masters (blocks_of s.blocks.items)
store-masters s = s.masters

pub store-no_block : (s : ListStore) (number : ℕ) → is_used (slots_of s.slots.items number) ≡ false
    → has (is_relocatable number) (blocks_of s.blocks.items) ≡ false
store-no_block s number unused = s.no_block number unused

pub store-once : (s : ListStore) (number : ℕ) → count (is_relocatable number) (blocks_of s.blocks.items) ≤ 1
store-once s number = s.once number

pub store-tidied : (s : ListStore) → tidy (blocks_of s.blocks.items) ≡ blocks_of s.blocks.items
store-tidied s = s.tidied

pub store-aligned : (s : ListStore) → Aligned (blocks_of s.blocks.items)
store-aligned s = s.aligned

pub store-placed : (s : ListStore) → Placed 0 (blocks_of s.blocks.items)
store-placed s = s.placed
