-- A slot and its number. For callers.
use Rattle.block_headers.proofs.Cited.{◌≡◌, ℕ, ◌+◌, ◌*◌, ◌%◌, inl, inr, refl, ap, arith, Bool, true, false, Option, None, Some, unwrap_or}
use Rattle.block_headers.proofs.Cited.{slot_number, IsSlotWord, IsSlotNumber, SlotWord, Block, Empty, Unused}

-- the number of a slot is one that can be read
pub slot_reads_as : (s : SlotWord) → IsSlotWord s → IsSlotNumber (slot_number s)
slot_reads_as (Block at) h = inl h
slot_reads_as (Empty true) h = inr (inr (inl refl))
slot_reads_as (Empty false) h = inr (inl refl)
slot_reads_as (Unused None) h = inr (inr (inr refl))
slot_reads_as (Unused (Some next)) h = inr (inr (inr (omega arith)))

-- the number of the slot of an empty handle
pub empty_number : (resource : Bool) → slot_number (Empty resource) % 16 ≡ 2
empty_number true = refl
empty_number false = refl

-- the number of an unused slot, 0 for no next one
pub unused_number : (next : Option ℕ) → slot_number (Unused next) ≡ 16 * unwrap_or next 0 + 1
unused_number None = refl
unused_number (Some next) = refl

-- a number that leaves 1 is that of an unused slot
pub unused_only : (s : SlotWord) → IsSlotWord s → slot_number s % 16 ≡ 1
    → ((next : Option ℕ) → s ≡ Unused next → ⊥) → ⊥
unused_only (Block at) h e n = omega (arith, h.0, e)
unused_only (Empty resource) h e n = omega (arith, empty_number resource, e)
unused_only (Unused next) h e n = n next refl

-- a slot is told by its number
pub same_slot : (s t : SlotWord) → IsSlotWord s → IsSlotWord t → slot_number s ≡ slot_number t → s ≡ t
same_slot (Block m) (Block n) h k e = ap Block e
same_slot (Block m) (Empty true) h k e = absurd (omega (arith, h.0, e))
same_slot (Block m) (Empty false) h k e = absurd (omega (arith, h.0, e))
same_slot (Block m) (Unused None) h k e = absurd (omega (arith, h.0, e))
same_slot (Block m) (Unused (Some n)) h k e = absurd (omega (arith, h.0, e))
same_slot (Empty true) (Block n) h k e = absurd (omega (arith, k.0, e))
same_slot (Empty true) (Empty true) h k e = refl
same_slot (Empty true) (Empty false) h k e = absurd (omega (arith, e))
same_slot (Empty true) (Unused None) h k e = absurd (omega (arith, e))
same_slot (Empty true) (Unused (Some n)) h k e = absurd (omega (arith, e))
same_slot (Empty false) (Block n) h k e = absurd (omega (arith, k.0, e))
same_slot (Empty false) (Empty true) h k e = absurd (omega (arith, e))
same_slot (Empty false) (Empty false) h k e = refl
same_slot (Empty false) (Unused None) h k e = absurd (omega (arith, e))
same_slot (Empty false) (Unused (Some n)) h k e = absurd (omega (arith, e))
same_slot (Unused None) (Block n) h k e = absurd (omega (arith, k.0, e))
same_slot (Unused None) (Empty true) h k e = absurd (omega (arith, e))
same_slot (Unused None) (Empty false) h k e = absurd (omega (arith, e))
same_slot (Unused None) (Unused None) h k e = refl
same_slot (Unused None) (Unused (Some n)) h k e = absurd (omega (arith, k.0, e))
same_slot (Unused (Some m)) (Block n) h k e = absurd (omega (arith, k.0, e))
same_slot (Unused (Some m)) (Empty true) h k e = absurd (omega (arith, e))
same_slot (Unused (Some m)) (Empty false) h k e = absurd (omega (arith, e))
same_slot (Unused (Some m)) (Unused None) h k e = absurd (omega (arith, h.0, e))
same_slot (Unused (Some m)) (Unused (Some n)) h k e = let f : m ≡ n = omega (arith, e) in ap (λ i. Unused (Some i)) f
