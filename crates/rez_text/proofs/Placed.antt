-- The places of types' groups, as groups change.
use Rattle.rez_text.proofs.Cited.{◌≡◌, ◌≢◌, ◌==◌, ◌⊎◌, inl, inr, ℕ, ◌+◌, Bool, true, false, cond, Some, None, List, [], ◌∷◌, ◌++◌, length}
use Rattle.rez_text.proofs.Cited.{refl, sym, ap, ◌∙◌, arith, position, position_from, nat_cmp, is_eq, eqb_tells, position_from-zero}
use Rattle.rez_text.proofs.Cited.{big_number, is_eq-nat_cmp, SourceGroup, is_of}

-- a group more: of another type, and of the type where that has none
other-from : (p : SourceGroup → Bool) (gs : List SourceGroup) (g : SourceGroup) (i : ℕ) → p g ≡ false
    → position_from p i (gs ++ g ∷ []) ≡ position_from p i gs
other-from p [] g i fails = rw fails refl
other-from p (x ∷ gs) g i fails = ap (λ t. cond (p x) (Some i) t) (other-from p gs g (i + 1) fails)

new-from : (p : SourceGroup → Bool) (gs : List SourceGroup) (g : SourceGroup) (i : ℕ) → position_from p i gs ≡ None
    → p g ≡ true → position_from p i (gs ++ g ∷ []) ≡ Some (i + length gs)
new-from p [] g i none is = rw is (ap Some (omega arith))
new-from p (x ∷ gs) g i none is = cases (p x) none (λ none. new-from p gs g (i + 1) none is)
  where
    cases : (t : Bool) → cond t (Some i) (position_from p (i + 1) gs) ≡ None
        → (position_from p (i + 1) gs ≡ None → position_from p (i + 1) (gs ++ g ∷ []) ≡ Some (i + 1 + length gs))
        → cond t (Some i) (position_from p (i + 1) (gs ++ g ∷ [])) ≡ Some (i + length (x ∷ gs))
    cases true none next = cc
    cases false none next = next none ∙ ap Some (omega arith)

from_none : (p : SourceGroup → Bool) (gs : List SourceGroup) → position p gs ≡ None → position_from p 0 gs ≡ None
from_none p gs none = sym (position_from-zero p gs) ∙ none

-- the places once a group of a new type is put after all others
pub place-push : (kind q n : ℕ) (gs : List SourceGroup) (g : SourceGroup) → big_number 4 g.ty.0 ≡ kind
    → position (is_of kind) gs ≡ None → n ≡ length gs
    → cond (is_eq (nat_cmp kind q)) (Some n) (position (is_of q) gs) ≡ position (is_of q) (gs ++ g ∷ [])
place-push kind q n gs g its none size =
    ap (λ t. cond t (Some n) (position (is_of q) gs)) (is_eq-nat_cmp kind q)
    ∙ cases (eqb_tells kind q) ∙ sym (position_from-zero (is_of q) (gs ++ g ∷ []))
  where
    cases : ((kind == q ≡ true) × (kind ≡ q)) ⊎ ((kind == q ≡ false) × (kind ≢ q))
        → cond (kind == q) (Some n) (position (is_of q) gs) ≡ position_from (is_of q) 0 (gs ++ g ∷ [])
    cases (inl e) =
        let of : is_of q g ≡ true = ap (λ k. k == q) its ∙ e.0 in
        let free : position_from (is_of q) 0 gs ≡ None =
        ap (λ k. position_from (is_of k) 0 gs) (sym e.1) ∙ from_none (is_of kind) gs none in
        let last : 0 + length gs ≡ n = omega (arith, size) in
        ap (λ t. cond t (Some n) (position (is_of q) gs)) e.0 ∙ ap Some (sym last)
        ∙ sym (new-from (is_of q) gs g 0 free of)
    cases (inr e) =
        let of : is_of q g ≡ false = ap (λ k. k == q) its ∙ e.0 in
        ap (λ t. cond t (Some n) (position (is_of q) gs)) e.0 ∙ position_from-zero (is_of q) gs
        ∙ sym (other-from (is_of q) gs g 0 of)
