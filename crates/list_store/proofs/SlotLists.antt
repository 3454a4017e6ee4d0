use Rattle.list_store.proofs.Cited.{◌≡◌, ℕ, ◌+◌, ◌<◌, zero, suc, true, false, ◌==◌, List, [], ◌∷◌, length, refl, sym, ◌∙◌, ap, Bool, cond}
use Rattle.list_store.proofs.Cited.{arith, Some, count_by, slice_get, slice_set, replicate, ◌⊎◌, inl, inr, sum_by-cons, cond-true}
use Rattle.list_store.proofs.Cited.{cond-false, cases_eq, false_from_ne_true, Decides-eqb, NoSlot, Unused, Used, set_slot, is_used}
use Rattle.list_store.proofs.Cited.{SlotEntry, slots_of, slot_of, slot_or_none, is_unused}
use Rattle.list_store.specs.declared.slots.SlotEntry.TheVariants as slot_entry

-- the table of slots with one changed
pub slots_of-set : (slots : List SlotEntry) (i : ℕ) (e : SlotEntry) → i < length slots → (k : ℕ)
    → slots_of (slice_set slots i e) k ≡ set_slot (slots_of slots) i (slot_of e) k
slots_of-set slots i e within k = cases (cases_eq k i)
  where
    cases : (k ≡ i) ⊎ (k ≡ i → ⊥) → slots_of (slice_set slots i e) k ≡ set_slot (slots_of slots) i (slot_of e) k
    cases (inl same) = ap slot_or_none (ap (slice_get (slice_set slots i e)) same ∙ get-same slots i within)
        ∙ sym (cond-true (k == i) (slot_of e) (slots_of slots k) ((Decides-eqb k i).1 same))
      where
        get-same : (slots : List SlotEntry) (i : ℕ) → i < length slots → slice_get (slice_set slots i e) i ≡ Some e
        get-same [] i within = absurd (let z : i < 0 = within in omega arith)
        get-same (x ∷ slots) zero within = refl
        get-same (x ∷ slots) (suc i) within = get-same slots i (let z : suc i < suc (length slots) = within in
            omega arith)
    cases (inr other) = ap slot_or_none (get-other slots i k other)
        ∙ sym (cond-false (k == i) (slot_of e) (slots_of slots k)
        (false_from_ne_true (k == i) (λ t. other ((Decides-eqb k i).0 t))))
      where
        get-other : (slots : List SlotEntry) (i k : ℕ) → (k ≡ i → ⊥)
            → slice_get (slice_set slots i e) k ≡ slice_get slots k
        get-other [] i k other = refl
        get-other (x ∷ slots) zero zero other = absurd (other refl)
        get-other (x ∷ slots) zero (suc k) other = refl
        get-other (x ∷ slots) (suc i) zero other = refl
        get-other (x ∷ slots) (suc i) (suc k) other = get-other slots i k (λ z. other (ap suc z))

-- a used slot is in the list
pub within-used : (slots : List SlotEntry) (i : ℕ) → is_used (slots_of slots i) ≡ true → i < length slots
within-used [] i e = let f : false ≡ true = e in cc
within-used (x ∷ slots) zero e = omega arith
within-used (x ∷ slots) (suc i) e = let r = within-used slots i e in omega arith

-- how many are unused where one that was used is not
pub unused-set : (slots : List SlotEntry) (i : ℕ) → is_used (slots_of slots i) ≡ true
    → count_by is_unused (slice_set slots i slot_entry.Unused) ≡ count_by is_unused slots + 1
unused-set [] i e = let f : false ≡ true = e in cc
unused-set (x ∷ slots) zero e = omega (arith, sum_by-cons one slot_entry.Unused slots, sum_by-cons one x slots, was x e)
  where
    one : SlotEntry → ℕ
    one s = cond (is_unused s) 1 0

    was : (x : SlotEntry) → is_used (slot_of x) ≡ true → one x ≡ 0
    was slot_entry.Unused e = let f : false ≡ true = e in cc
    was (slot_entry.Used r) e = refl
unused-set (x ∷ slots) (suc i) e = let r = unused-set slots i e in
    omega (
      arith,
      sum_by-cons (λ (s : SlotEntry). cond (is_unused s) 1 0) x (slice_set slots i slot_entry.Unused),
      sum_by-cons (λ (s : SlotEntry). cond (is_unused s) 1 0) x slots,
    )

-- how many are unused where one of them no longer is
pub unused-taken : (slots : List SlotEntry) (i : ℕ) → slots_of slots i ≡ Unused
    → count_by is_unused (slice_set slots i (slot_entry.Used false)) + 1 ≡ count_by is_unused slots
unused-taken [] i e = let f : NoSlot ≡ Unused = e in cc
unused-taken (x ∷ slots) zero e = omega (
  arith,
  sum_by-cons one (slot_entry.Used false) slots,
  sum_by-cons one x slots,
  was x e,
)
  where
    one : SlotEntry → ℕ
    one s = cond (is_unused s) 1 0

    was : (x : SlotEntry) → slot_of x ≡ Unused → one x ≡ 1
    was slot_entry.Unused e = refl
    was (slot_entry.Used r) e = let f : Used r ≡ Unused = e in cc
unused-taken (x ∷ slots) (suc i) e = let r = unused-taken slots i e in
    omega (
      arith,
      sum_by-cons (λ (s : SlotEntry). cond (is_unused s) 1 0) x (slice_set slots i (slot_entry.Used false)),
      sum_by-cons (λ (s : SlotEntry). cond (is_unused s) 1 0) x slots,
    )

-- a used slot with another flag: the same slots are used
pub used-flagged : (slots : List SlotEntry) (i : ℕ) (r : Bool) → is_used (slots_of slots i) ≡ true → (k : ℕ)
    → is_used (slots_of (slice_set slots i (slot_entry.Used r)) k) ≡ is_used (slots_of slots k)
used-flagged [] i r e k = refl
used-flagged (x ∷ slots) zero r e zero = sym e
used-flagged (x ∷ slots) zero r e (suc k) = refl
used-flagged (x ∷ slots) (suc i) r e zero = refl
used-flagged (x ∷ slots) (suc i) r e (suc k) = used-flagged slots i r e k

-- and as many are unused
pub unused-flagged : (slots : List SlotEntry) (i : ℕ) (r : Bool) → is_used (slots_of slots i) ≡ true
    → count_by is_unused (slice_set slots i (slot_entry.Used r)) ≡ count_by is_unused slots
unused-flagged [] i r e = refl
unused-flagged (x ∷ slots) zero r e = omega (
  arith,
  sum_by-cons one (slot_entry.Used r) slots,
  sum_by-cons one x slots,
  was x e,
)
  where
    one : SlotEntry → ℕ
    one s = cond (is_unused s) 1 0

    was : (x : SlotEntry) → is_used (slot_of x) ≡ true → one x ≡ 0
    was slot_entry.Unused e = let f : false ≡ true = e in cc
    was (slot_entry.Used s) e = refl
unused-flagged (x ∷ slots) (suc i) r e = let same = unused-flagged slots i r e in
    omega (
      arith,
      sum_by-cons (λ (s : SlotEntry). cond (is_unused s) 1 0) x (slice_set slots i (slot_entry.Used r)),
      sum_by-cons (λ (s : SlotEntry). cond (is_unused s) 1 0) x slots,
    )

-- slots of which none is a handle's
pub fresh-unused : (n number : ℕ) → is_used (slots_of (replicate n slot_entry.Unused) number) ≡ false
fresh-unused zero number = refl
fresh-unused (suc n) zero = refl
fresh-unused (suc n) (suc number) = fresh-unused n number
