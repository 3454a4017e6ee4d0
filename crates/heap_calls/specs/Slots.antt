use Rattle.std.specs.Prelude.{Bool, List, nat_lt}
use Rattle.block_store.specs.Block.{Block}
use Rattle.moves.specs.Moves.{Did, did}
use Rattle.moves.specs.Seeking.{seek_slot}
use Rattle.heap_calls.specs.State.{State, used_slots, all_slots}

-- Master pointers for new handles. Inside Macintosh: Memory, chapter 2, "Allocating Master Pointers".

-- A master pointer is unused.
abbrev pub is_unused : State → Bool
is_unused s = nat_lt (used_slots s) (all_slots s)

-- What is done for an unused master pointer: nothing where there is one; else a new master pointer block is made, where
-- there is room for it. No spared block is purged for it.
-- See decision 23 (master pointers are added before the block is sought).
abbrev pub slot_made : (Block → Bool) → State → Did
slot_made spared s = did spared (seek_slot (is_unused s) spared s.zone).path s.zone

-- The zone after that.
abbrev pub slotted_zone : (Block → Bool) → State → List Block
slotted_zone spared s = (slot_made spared s).zone
