use Rattle.heap_calls.proofs.Cited.{◌≡◌, ℕ, ◌+◌, Bool, true, false, ◌==◌, refl, sym, ◌∙◌, ap, Option, Some, None}
use Rattle.heap_calls.proofs.Cited.{MatchOption, length-replicate, none-some, cond-true, cond-false}
use Rattle.heap_calls.proofs.Cited.{Decides-eqb, padded, size, Unused}
use Rattle.heap_calls.proofs.Cited.{Used, Rest, KeepsSlots, with_slot}
use Rattle.heap_calls.proofs.Cited.{fresh_block, given_back}

-- What a placement tells of room for a new block.

pub fresh-size : (n bytes : ℕ) → bytes ≡ padded n → (number : ℕ) → size (fresh_block number n) ≡ bytes
fresh-size n bytes fits number = ap padded (length-replicate n 0) ∙ sym fits

-- a slot that was taken and is given back
pub slot-back : (more rest1 rest' : Rest) (slot : ℕ) → more.slots slot ≡ Unused → rest1.unused + 1 ≡ more.unused
    → KeepsSlots (with_slot slot (Used false) rest1.unused more) rest1 → KeepsSlots (given_back slot rest1) rest'
    → KeepsSlots more rest'
slot-back more rest1 rest' slot was one took back = record {
  slots = λ k. cases k (k == slot) refl;
  unused = back.unused ∙ one;
  all = back.all ∙ took.all;
  moves = refl;
  placed = refl;
  window = back.window ∙ took.window;
}
  where
    cases : (k : ℕ) (t : Bool) → (k == slot) ≡ t → rest'.slots k ≡ more.slots k
    cases k true e = back.slots k ∙ cond-true (k == slot) Unused (rest1.slots k) e ∙ sym was
        ∙ ap more.slots (sym ((Decides-eqb k slot).0 e))
    cases k false e = back.slots k ∙ cond-false (k == slot) Unused (rest1.slots k) e ∙ took.slots k
        ∙ cond-false (k == slot) (Used false) (more.slots k) e

-- what holds where there is no place
pub at_none : {A : Type 0} (o : Option A) (P : Type 0) (Q : A → Type 0) → o ≡ None → MatchOption o P Q → P
at_none None P Q is p = p
at_none (Some x) P Q is p = absurd (none-some _ (sym is))
