use Rattle.std.specs.Prelude.{ℕ, Bool, true, false, Option, Some, None, List, [], ◌∷◌, map, slice_get, zero, suc}
use Rattle.std.specs.Prelude.{if◌then◌else◌}
use Rattle.std.specs.Option.{option_map}
use Rattle.block_store.specs.Block.{Block, Free, Nonrelocatable, Masters, Relocatable, size}
use Rattle.block_store.specs.Room.{Spot, raised}
use Rattle.block_store.specs.Slot.{Slot, NoSlot, Unused, Used}
use Rattle.list_store.specs.declared.entries.StoredBlock.{StoredBlock}
use Rattle.list_store.specs.declared.entries.StoredBlock.TheVariants as entry
use Rattle.list_store.specs.declared.slots.SlotEntry.{SlotEntry}
use Rattle.list_store.specs.declared.slots.SlotEntry.TheVariants as slot_entry

-- The block that an entry stands for.
abbrev pub block_of : StoredBlock → Block
block_of (entry.Free n) = Free n
block_of (entry.Nonrelocatable place content) = Nonrelocatable place content.items
block_of entry.Masters = Masters
block_of (entry.Relocatable slot flags content) = Relocatable slot flags content.items

abbrev pub blocks_of : List StoredBlock → List Block
blocks_of entries = map block_of entries

-- The block of an index, in its place.
abbrev pub nth_spot : ℕ → List Block → Option Spot
nth_spot i [] = None
nth_spot zero (b ∷ above) = Some (record { below = []; here = b; above = above })
nth_spot (suc i) (b ∷ above) = option_map (raised b) (nth_spot i above)

-- The blocks, of which the lowest, where it passes the test, is now a free block.
abbrev pub freed_first : (Block → Bool) → List Block → List Block
freed_first test [] = []
freed_first test (b ∷ above) = (if test b then Free (size b) else b) ∷ above

-- The state that an entry of the list of master pointers stands for.
abbrev pub slot_of : SlotEntry → Slot
slot_of slot_entry.Unused = Unused
slot_of (slot_entry.Used resource) = Used resource

abbrev pub slot_or_none : Option SlotEntry → Slot
slot_or_none None = NoSlot
slot_or_none (Some e) = slot_of e

-- The state of a number as a master pointer: the number is an index of the list.
abbrev pub slots_of : List SlotEntry → ℕ → Slot
slots_of slots number = slot_or_none (slice_get slots number)

abbrev pub is_unused : SlotEntry → Bool
is_unused slot_entry.Unused = true
is_unused (slot_entry.Used resource) = false
