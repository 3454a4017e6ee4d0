use Rattle.heap_calls.proofs.Cited.{◌≡◌, ℕ, ◌+◌, ◌<◌, zero, suc, Bool, true, false, ◌==◌, List, [], ◌∷◌, refl, sym, ◌∙◌, ap, cond, arith}
use Rattle.heap_calls.proofs.Cited.{Some, slice_get, none-some, same_Some, false≢true, cond-true, cond-false, same_from_decides}
use Rattle.heap_calls.proofs.Cited.{Decides-eqb, Decides-like, Block, Free, Nonrelocatable, Masters, Relocatable, rename_block}
use Rattle.heap_calls.proofs.Cited.{is_relocatable, Anchor, number_from, handle_number, pointer_number, leads_to, no_number}
use Rattle.heap_calls.specs.declared.anchor.Anchor.TheVariants.{Handle, Pointer, Disposed}

-- two tests of numbers agree where each equation gives the other
pub same_test : (a b c d : ℕ) → (a ≡ b → c ≡ d) → (c ≡ d → a ≡ b) → (a == b) ≡ (c == d)
same_test a b c d there back = same_from_decides (a == b) (c == d) (Decides-eqb a b)
    (Decides-like (c == d) back there (Decides-eqb c d))

-- a number isn't another one
pub flipped : (h k : ℕ) → (k == h) ≡ false → (h == k) ≡ false
flipped h k e = same_test h k k h sym sym ∙ e

-- the number of the only entry that passes
pub number_from-at : (n : ℕ) (test : Anchor → Bool) (es : List Anchor) (h : ℕ) (e : Anchor) → slice_get es h ≡ Some e
    → test e ≡ true
    → ((k : ℕ) (x : Anchor) → slice_get es k ≡ Some x → test x ≡ true → k ≡ h) → number_from n test es ≡ n + h
number_from-at n test [] h e at is only = absurd (none-some _ at)
number_from-at n test (x ∷ es) zero e at is only = cond-true (test x) n _ (ap test (same_Some _ _ at) ∙ is)
    ∙ omega arith
number_from-at n test (x ∷ es) (suc h) e at is only =
    let here : (test x ≡ true) → 0 ≡ suc h = only 0 x refl in
    let rest = number_from-at (n + 1) test es h e at is (λ k y at' is'. let same : suc k
    ≡ suc h = only (suc k) y at' is' in omega arith) in
    cond-false (test x) n _ (false_if (test x) (λ t. absurd (let z : 0 ≡ suc h = here t in omega arith))) ∙ rest
    ∙ omega arith
  where
    false_if : (t : Bool) → (t ≡ true → ⊥) → t ≡ false
    false_if true h = absurd (h refl)
    false_if false h = refl

-- an entry that has a number passes
pub number_from-found : (n : ℕ) (test : Anchor → Bool) (es : List Anchor) (m : ℕ) → number_from n test es ≡ m
    → m < no_number → (k : ℕ) × (e : Anchor) × (m ≡ n + k) × (slice_get es k ≡ Some e) × (test e ≡ true)
number_from-found n test [] m is small = absurd (omega arith)
number_from-found n test (x ∷ es) m is small = cases (test x) refl is (λ e. number_from-found (n + 1) test es m e small)
  where
    cases : (t : Bool) → test x ≡ t → cond t n (number_from (n + 1) test es) ≡ m
        → (number_from (n + 1) test es ≡ m → (k : ℕ) × (e : Anchor) × (m ≡ n + 1 + k) × (slice_get es k ≡ Some e)
        × (test e ≡ true))
        → (k : ℕ) × (e : Anchor) × (m ≡ n + k) × (slice_get (x ∷ es) k ≡ Some e) × (test e ≡ true)
    cases true passes is rest = (0, x, omega arith, refl, passes)
    cases false fails is rest = let found = rest is in (suc found.0, found.1, omega (arith, found.2), found.3, found.4)

pub leads_to-is : (slot : ℕ) (e : Anchor) → leads_to slot e ≡ true → (guarded : Bool) × (e ≡ Handle slot guarded)
leads_to-is slot (Handle s guarded) is = (guarded, ap (λ n. Handle n guarded) ((Decides-eqb s slot).0 is))
leads_to-is slot (Pointer p) is = absurd (false≢true is)
leads_to-is slot Disposed is = absurd (false≢true is)

pub leads_to-same : (slot : ℕ) → (slot == slot) ≡ true
leads_to-same slot = (Decides-eqb slot slot).1 refl

-- no two handles have one slot
abbrev pub Apart : List Anchor → Type 0
Apart es = (h k slot : ℕ) (guarded other : Bool) → slice_get es h ≡ Some (Handle slot guarded)
    → slice_get es k ≡ Some (Handle slot other) → h ≡ k

-- the number of a slot is that of its handle
pub handle_number-at : (es : List Anchor) (h slot : ℕ) {guarded : Bool} → slice_get es h ≡ Some (Handle slot guarded)
    → Apart es → handle_number es slot ≡ h
handle_number-at es h slot {guarded} at apart =
    number_from-at 0 (leads_to slot) es h (Handle slot guarded) at (leads_to-same slot)
    (λ k e found is. let led = leads_to-is slot e is in apart k h slot led.0 guarded (found ∙ ap Some led.1) at)
    ∙ omega arith

-- and no other slot has it
pub handle_number-only : (es : List Anchor) (h slot id : ℕ) {guarded : Bool}
    → slice_get es h ≡ Some (Handle slot guarded) → h < no_number → handle_number es id ≡ h → id ≡ slot
handle_number-only es h slot id {guarded} at small is =
    let found = number_from-found 0 (leads_to id) es h is small in
    let place : h ≡ 0 + found.0 = found.2 in
    let same : h ≡ found.0 = omega arith in
    let both : Some found.1 ≡ Some (Handle slot guarded) = sym found.3 ∙ ap (slice_get es) (sym same) ∙ at in
    let led = leads_to-is id found.1 found.4 in
    slot_from led.0 (sym led.1 ∙ same_Some _ _ both)
  where
    slot_from : (g : Bool) → Handle id g ≡ Handle slot guarded → id ≡ slot
    slot_from g e = cc

-- a block has a handle's number where it has its slot
pub is_relocatable-number : (es : List Anchor) (h slot : ℕ) {guarded : Bool}
    → slice_get es h ≡ Some (Handle slot guarded) → Apart es → h < no_number
    → (b : Block) → is_relocatable h (rename_block (handle_number es) (pointer_number es) b) ≡ is_relocatable slot b
is_relocatable-number es h slot at apart small (Free n) = refl
is_relocatable-number es h slot at apart small (Nonrelocatable id content) = refl
is_relocatable-number es h slot at apart small Masters = refl
is_relocatable-number es h slot at apart small (Relocatable id flags content) =
    same_test (handle_number es id) h id slot (handle_number-only es h slot id at small)
    (λ e. ap (handle_number es) e ∙ handle_number-at es h slot at apart)
