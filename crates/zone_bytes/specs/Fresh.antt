-- The slots of a fresh zone.
use Rattle.std.specs.Prelude.{ℕ, ◌+◌, ◌%◌, ◌&&◌, ◌==◌, nat_le, if◌then◌else◌, List, []}
use Rattle.std.specs.Prelude.{◌∷◌, zero, suc}
use Rattle.block_store.specs.Slot.{Slot, NoSlot, Unused}

-- The places of `n` slots from the place `at` on.
abbrev pub slots_from : ℕ → ℕ → List ℕ
slots_from at zero = []
slots_from at (suc n) = at ∷ slots_from (at + 4) n

-- The slots of the lowest master pointer block.
unfoldable pub all_slots : List ℕ
all_slots = slots_from 16 64

abbrev pub fresh_slots : ℕ → Slot
fresh_slots s = if nat_le 16 s && (nat_le (s + 4) 272 && (s % 4 == 0)) then Unused else NoSlot
