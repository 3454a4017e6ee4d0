-- The slots of master pointers (Inside Macintosh: Memory, chapter 1, "Relocatable and Nonrelocatable Blocks").
use Rattle.std.specs.Prelude.{◌≡◌, ℕ, ◌+◌, ◌*◌, ◌%◌, ◌<◌, ◌^◌, ◌⊎◌, true, false, None, Some}
use Rattle.block_headers.specs.declared.slot.SlotWord.{SlotWord}
use Rattle.block_headers.specs.declared.slot.SlotWord.TheVariants.{Block, Empty, Unused}

-- The number that stands in a slot: the place of its block; or 2 for an empty handle (18 for a resource's); or, of an
-- unused slot, 16 times the place of the next unused slot plus 1 (1 alone where none follows).
-- See decision 136 (a slot word is an enum).
abbrev pub slot_number : SlotWord → ℕ
slot_number (Block at) = at
slot_number (Empty true) = 18
slot_number (Empty false) = 2
slot_number (Unused None) = 1
slot_number (Unused (Some next)) = 16 * next + 1

-- What can stand in a slot: the place of a block is a multiple of 16, and neither a block nor a slot has the place 0.
abbrev pub IsSlotWord : SlotWord → Type 0
IsSlotWord (Block at) = (at % 16 ≡ 0) × (0 < at)
IsSlotWord (Empty resource) = Unit {0}
IsSlotWord (Unused None) = Unit {0}
IsSlotWord (Unused (Some next)) = (0 < next) × (16 * next + 1 < 2 ^ 32)

-- The numbers that can stand in a slot.
abbrev pub IsSlotNumber : ℕ → Type 0
IsSlotNumber n = ((n % 16 ≡ 0) × (0 < n)) ⊎ ((n ≡ 2) ⊎ ((n ≡ 18) ⊎ (n % 16 ≡ 1)))
