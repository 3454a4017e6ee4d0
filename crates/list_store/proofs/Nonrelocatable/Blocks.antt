use Rattle.list_store.proofs.Cited.{◌≡◌, ℕ, ◌+◌, ◌-◌, Bool, true, false, List, [], ◌∷◌, ◌++◌, length, refl, sym, ◌∙◌, ap, subst, arith}
use Rattle.list_store.proofs.Cited.{Result, Ok, Err, replicate, zero, suc, OnOk, OnErr, IfSome, IsSomeAnd, Block, Masters, is_room, spot_at}
use Rattle.list_store.proofs.Cited.{filled, is_used, SlotEntry, slots_of, Lawful, lawful-stood}
use Rattle.list_store.specs.declared.slots.SlotEntry.TheVariants as slot_entry

-- slots with unused ones after them
slots_of-more : (slots : List SlotEntry) (n k : ℕ) → is_used (slots_of slots k) ≡ true
    → slots_of (slots ++ replicate n slot_entry.Unused) k ≡ slots_of slots k
slots_of-more [] n k used = let f : false ≡ true = used in cc
slots_of-more (x ∷ slots) n zero used = refl
slots_of-more (x ∷ slots) n (suc k) used = slots_of-more slots n k used

pub slots-more : (slots slots' : List SlotEntry) (k : ℕ) → slots' ≡ slots ++ replicate 64 slot_entry.Unused
    → is_used (slots_of slots k) ≡ true → slots_of slots' k ≡ slots_of slots k
slots-more slots slots' k after used = ap (λ l. slots_of l k) after ∙ slots_of-more slots 64 k used

pub slots-stay : (slots slots' : List SlotEntry) → slots' ≡ slots ++ replicate 64 slot_entry.Unused → (k : ℕ)
    → is_used (slots_of slots' k) ≡ false → is_used (slots_of slots k) ≡ false
slots-stay slots slots' after k unused = cases (is_used (slots_of slots k)) refl
  where
    cases : (t : Bool) → is_used (slots_of slots k) ≡ t → t ≡ false
    cases true used = sym (ap is_used (slots-more slots slots' k after used) ∙ used) ∙ unused
    cases false used = refl

-- a new block of master pointers, or the host had no memory for it
pub lawful-masters : {T E : Type 0} (r : Result T E) (slots slots' : List SlotEntry) (bytes : ℕ)
    (zone zone' : List Block) (place : ℕ) → Lawful (slots_of slots) bytes (length slots) zone
    → OnOk r (slots' ≡ slots ++ replicate 64 slot_entry.Unused)
    → OnErr r (slots' ≡ slots) → IsSomeAnd (spot_at place zone) (λ s. is_room 272 s.here ≡ true)
    → OnOk r (IfSome (spot_at place zone) (λ s. zone' ≡ filled Masters s)) → OnErr r (zone' ≡ zone)
    → Lawful (slots_of slots') bytes (length slots') zone'
lawful-masters (Ok x) slots slots' bytes zone zone' place lawful more same room after err =
    lawful-stood (slots_of slots) (slots_of slots') bytes (length slots) (length slots') zone zone' place Masters lawful
    (λ k. refl) (ap length more ∙ counted slots) (slots-stay slots slots' more) tt refl room after
  where
    counted : (l : List SlotEntry) → length (l ++ replicate 64 slot_entry.Unused) ≡ length l + 64
    counted [] = refl
    counted (x ∷ l) = let r = counted l in omega arith
lawful-masters (Err e) slots slots' bytes zone zone' place lawful more same room after err =
    let P : List SlotEntry → Type 0 = λ l. Lawful (slots_of l) bytes (length l) zone' in
    subst P (sym same) (subst (Lawful (slots_of slots) bytes (length slots)) (sym err) lawful)
