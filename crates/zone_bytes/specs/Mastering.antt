-- Another master pointer block, whose slots precede the unused slots.
use Rattle.std.specs.Prelude.{◌≡◌, ℕ, ◌+◌, ◌-◌, ◌*◌, ◌%◌, ◌≤◌, ◌<◌, ◌⊎◌, ◌&&◌, ◌==◌, nat_le, if◌then◌else◌, suc, Bool}
use Rattle.std.specs.Prelude.{List, [], ◌∷◌}
use Rattle.memory_windows.specs.Writes.{piece}
use Rattle.block_headers.specs.Words.{word, header}
use Rattle.block_store.specs.Slot.{Slot, Unused}
use Rattle.zone_bytes.specs.Splicing.{SameOutside}
use Rattle.zone_bytes.specs.Fresh.{slots_from}

-- The slots of a master pointer block at `place`.
abbrev pub slots_at : ℕ → List ℕ
slots_at place = slots_from (place + 16) 64

-- Reports whether `s` is a slot of a master pointer block at `place`.
abbrev pub is_slot_at : ℕ → ℕ → Bool
is_slot_at place s = nat_le (place + 16) s && (nat_le (s + 4) (place + 272) && (s % 4 == 0))

-- The slots of a zone with a new master pointer block at `place`, whose slots are unused.
abbrev pub with_slots : ℕ → (ℕ → Slot) → ℕ → Slot
with_slots place slots s = if is_slot_at place s then Unused else slots s

-- The first of a list of slots, or `end` if the list is empty.
abbrev pub first_or : ℕ → List ℕ → ℕ
first_or end [] = end
first_or end (s ∷ slots) = s

-- The slots are in order, each holds the place of the next one, and the last one holds the place `end`.
abbrev pub Thread : ℕ → List ℕ → List ℕ → Type 0
Thread end xs [] = Unit {0}
Thread end xs (s ∷ slots) = (piece s 4 xs ≡ word (16 * first_or end slots + 1)) × Thread end xs slots

-- The slots from `slot` on are chained, while a master pointer block at `bottom` is written.
pub record Threading (bottom end slot : ℕ) (old xs : List ℕ) : Type 0 where
  pub more : ℕ
  pub at : slot + 4 * (more + 1) ≡ bottom + 272
  pub thread : Thread end xs (slots_from slot (suc more))
  pub outside : SameOutside (bottom + 16) (bottom + 272) old xs
  pub low : bottom + 16 ≤ slot
  pub even : slot % 4 ≡ 0

-- The bytes from `place` on are the header of a master pointer block, its slots, which are chained and end with
-- `first`, and a free block of what is left of `size` bytes.
pub record HasMasters (place size first : ℕ) (old new : List ℕ) : Type 0 where
  pub outside : SameOutside place (place + size) old new
  pub begins : piece place 16 new ≡ header 274 256 0 0
  pub rest : (size - 272 ≡ 0) ⊎ ((0 < size - 272) × (piece (place + 272) 4 new ≡ word (size - 272)))
  pub thread : Thread first new (slots_at place)
