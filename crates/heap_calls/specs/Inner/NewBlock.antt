use Rattle.std.specs.Prelude.{◌≡◌, ℕ, ◌+◌, Bool, Option, Some, None, List, length, map, replicate, is_some, unwrap_or}
use Rattle.std.specs.Prelude.{if◌then◌else◌}
use Rattle.std.specs.Option.{IsSomeAnd}
use Rattle.mac_words.specs.Size.{phys}
use Rattle.block_store.specs.declared.flags.Flags.{Flags}
use Rattle.block_store.specs.Block.{Block, Relocatable, no_flags, is_relocatable}
use Rattle.block_store.specs.Room.{spot}
use Rattle.block_store.specs.Slot.{Unused}
use Rattle.block_store.specs.Rest.{Rest, KeepsSlots, with_slot}
use Rattle.block_store.specs.Sparing.{spared}
use Rattle.block_store.specs.declared.sparing.Sparing.{Sparing}
use Rattle.moves.specs.Moves.{Put}
use Rattle.moves.specs.Seeking.{Sought, seek, if_fits, then_seek}
use Rattle.heap_calls.specs.Inner.NewSlot.{seek_unused}
use Rattle.heap_calls.specs.Inner.Went.{Went}
use Rattle.heap_calls.specs.declared.base.Taken.{Taken}

-- New blocks in a store.

-- A new relocatable block of n bytes, all 0.
abbrev pub fresh_block : ℕ → ℕ → Block
fresh_block number n = Relocatable number no_flags (replicate n 0)

-- The block of a slot is there, and is new.
abbrev pub IsFresh : ℕ → ℕ → List Block → Type 0
IsFresh slot n zone = IsSomeAnd (spot (is_relocatable slot) zone) (λ s. s.here ≡ fresh_block slot n)

-- The block of a slot with these flags and bytes in place of its own; any other block as it is.
abbrev pub replaced : ℕ → Flags → List ℕ → Block → Block
replaced slot flags x b = if is_relocatable slot b then Relocatable slot flags x else b

-- The zone with the block of a slot so.
abbrev pub replaced_at : Option ℕ → Flags → List ℕ → List Block → List Block
replaced_at None flags x zone = zone
replaced_at (Some slot) flags x zone = map (replaced slot flags x) zone

-- The search for the place of a block, if it can have n bytes.
abbrev pub seek_block : Sparing → ℕ → Block → List Block → Sought
seek_block sparing n new zone = if_fits n (seek (Put new) (spared sparing) zone)

-- The search for an unused slot, by the number of slots that are unused, and then for the place of a block.
abbrev pub seek_new : Sparing → ℕ → ℕ → Block → List Block → Sought
seek_new sparing unused n new zone =
    then_seek (spared sparing) zone (seek_unused sparing unused zone) (seek_block sparing n new)

-- With any flags, and any bytes that take as much room as n bytes, in the block that was made, the store has gone the path
-- of the search for that block.
abbrev pub MakesBlock : (Block → Bool) → ℕ → (Block → List Block → Sought) → List Block → Taken → List Block → Rest → Rest
    → Type 0
MakesBlock spared n search zone made zone' rest rest' = (flags : Flags) (x : List ℕ) → phys (length x) ≡ phys n
    → Went spared zone (search (Relocatable (unwrap_or made.slot 0) flags x) zone) (is_some made.slot) made.searches
    (replaced_at made.slot flags x zone') rest rest'

-- The store's slots once a slot is unused again.
abbrev pub given_back : ℕ → Rest → Rest
given_back slot rest = with_slot slot Unused (rest.unused + 1) rest

-- A slot that was taken keeps its new block; where none was made it is unused again.
abbrev pub KeepsTaken : ℕ → Option ℕ → Rest → Rest → Type 0
KeepsTaken slot None rest rest' = KeepsSlots (given_back slot rest) rest'
KeepsTaken slot (Some made) rest rest' = (made ≡ slot) × KeepsSlots rest rest'
