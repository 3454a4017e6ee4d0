use Rattle.res_map.proofs.Cited.{◌≡◌, ◌∙◌, refl, sym, ap, ℕ, zero, suc, ◌+◌, ◌-◌, ◌<◌, ◌≤◌, min, arith, Bool, true, false, cond, List, []}
use Rattle.res_map.proofs.Cited.{◌∷◌, ◌++◌, length, Option, Some, None, IfSome, subst, option_map, slice_get, slice_set, nat_le, ◌^◌}
use Rattle.res_map.proofs.Cited.{insert, remove, nat_tests, Split, split, behind, place, first_place, raised, raised_within, lowered}
use Rattle.res_map.proofs.Cited.{sooner, entered}
use Rattle.std.proofs.Common.{◌≢◌}

-- The place of the first item that passes a test, as the list changes.

-- the place behind one item more
abbrev pub one_on : Bool → Option ℕ → Option ℕ
one_on here found = cond here (Some 0) (option_map suc found)

pub first-cons : {A : Type 0} (test : A → Bool) (x : A) (xs : List A)
    → first_place test (x ∷ xs) ≡ one_on (test x) (first_place test xs)
first-cons {A = A} test x xs = cases (test x) (split test xs)
  where
    cases : (t : Bool) (o : Option (Split A))
        → option_map place (cond t (Some (record { before = []; here = x; after = xs })) (option_map (behind x) o))
        ≡ one_on t (option_map place o)
    cases true o = refl
    cases false None = refl
    cases false (Some at) = refl

-- it is inside the list
pub first-within : {A : Type 0} (test : A → Bool) (xs : List A) → IfSome (first_place test xs) (λ p. p < length xs)
first-within test [] = tt
first-within {A = A} test (x ∷ xs) =
    subst (λ o. IfSome o (λ p. p < suc (length xs))) (sym (first-cons test x xs))
    (cases (test x) (first_place test xs) (first-within test xs))
  where
    cases : (t : Bool) (o : Option ℕ) → IfSome o (λ p. p < length xs)
        → IfSome (one_on t o) (λ p. p < suc (length xs))
    cases true o h = omega arith
    cases false None h = h
    cases false (Some p) h = omega arith

pub some-none : (n : ℕ) → Some n ≡ None → ⊥
some-none n e = cc

-- there is one where the item at a place passes
pub first-there : {A : Type 0} (test : A → Bool) (xs : List A) (at : ℕ) (x : A) → slice_get xs at ≡ Some x
    → test x ≡ true → first_place test xs ≢ None
first-there test [] at x is passes none = cc
first-there {A = A} test (y ∷ xs) zero x is passes none =
    let same : y ≡ x = cc in
    let here : test y ≡ true = ap test same ∙ passes in
    let found : first_place test (y ∷ xs) ≡ Some 0 =
    first-cons test y xs ∙ ap (λ t. one_on t (first_place test xs)) here in
    some-none 0 (sym found ∙ none)
first-there test (y ∷ xs) (suc at) x is passes none =
    cases (test y) (first_place test xs) (first-there test xs at x is passes) (sym (first-cons test y xs) ∙ none)
  where
    cases : (t : Bool) (o : Option ℕ) → o ≢ None → one_on t o ≡ None → ⊥
    cases true o some e = some-none 0 e
    cases false None some e = some refl
    cases false (Some p) some e = some-none (suc p) e

-- an item that is put in
entered-zero : (t : Bool) (o : Option ℕ) → one_on t o ≡ entered t 0 o
entered-zero true None = refl
entered-zero true (Some p) = grind (arith, nat_tests)
entered-zero false None = refl
entered-zero false (Some p) = grind (arith, nat_tests)

entered-on : (t u : Bool) (at : ℕ) (o : Option ℕ) → one_on u (entered t at o) ≡ entered t (suc at) (one_on u o)
entered-on true true at o = grind (arith, nat_tests)
entered-on false true at o = grind (arith, nat_tests)
entered-on true false at None = refl
entered-on true false at (Some p) = grind (arith, nat_tests)
entered-on false false at None = refl
entered-on false false at (Some p) = grind (arith, nat_tests)

pub first-insert : {A : Type 0} (test : A → Bool) (xs : List A) (at : ℕ) (x : A) → at ≤ length xs
    → first_place test (insert xs at x) ≡ entered (test x) at (first_place test xs)
first-insert test [] zero x inside = first-cons test x [] ∙ entered-zero (test x) None
first-insert test (y ∷ xs) zero x inside =
    first-cons test x (y ∷ xs) ∙ entered-zero (test x) (first_place test (y ∷ xs))
first-insert test [] (suc at) x inside = absurd (omega arith)
first-insert test (y ∷ xs) (suc at) x inside =
    first-cons test y (insert xs at x)
    ∙ ap (one_on (test y)) (first-insert test xs at x (omega arith))
    ∙ entered-on (test x) (test y) at (first_place test xs)
    ∙ ap (entered (test x) (suc at)) (sym (first-cons test y xs))

-- an item that is taken out, and does not pass
lowered-on : (u : Bool) (at : ℕ) (o : Option ℕ)
    → one_on u (option_map (lowered at) o) ≡ option_map (lowered (suc at)) (one_on u o)
lowered-on true at o = grind (arith, nat_tests)
lowered-on false at None = refl
lowered-on false at (Some p) = grind (arith, nat_tests)

lowered-zero : (o : Option ℕ) → o ≡ option_map (lowered 0) (option_map suc o)
lowered-zero None = refl
lowered-zero (Some p) = grind (arith, nat_tests)

pub first-remove : {A : Type 0} (test : A → Bool) (xs : List A) (at : ℕ) (x : A) → slice_get xs at ≡ Some x
    → test x ≡ false → first_place test (remove xs at) ≡ option_map (lowered at) (first_place test xs)
first-remove test [] at x is fails = cc
first-remove test (y ∷ xs) zero x is fails =
    let same : y ≡ x = cc in
    lowered-zero (first_place test xs)
    ∙ ap (option_map (lowered 0)) (sym (first-cons test y xs
    ∙ ap (λ t. one_on t (first_place test xs)) (ap test same ∙ fails)))
first-remove test (y ∷ xs) (suc at) x is fails =
    first-cons test y (remove xs at) ∙ ap (one_on (test y)) (first-remove test xs at x is fails)
    ∙ lowered-on (test y) at (first_place test xs)
    ∙ ap (option_map (lowered (suc at))) (sym (first-cons test y xs))

-- an item in place of one that does not pass
abbrev pub replaced_at : Bool → ℕ → Option ℕ → Option ℕ
replaced_at passes at found = cond passes (sooner at found) found

replaced-zero : (t : Bool) (o : Option ℕ) → one_on t o ≡ replaced_at t 0 (option_map suc o)
replaced-zero true None = refl
replaced-zero true (Some p) = grind (arith, nat_tests)
replaced-zero false o = refl

replaced-on : (t u : Bool) (at : ℕ) (o : Option ℕ)
    → one_on u (replaced_at t at o) ≡ replaced_at t (suc at) (one_on u o)
replaced-on true true at o = grind (arith, nat_tests)
replaced-on false u at o = refl
replaced-on true false at None = refl
replaced-on true false at (Some p) = grind (arith, nat_tests)

pub first-set : {A : Type 0} (test : A → Bool) (xs : List A) (at : ℕ) (x y : A) → slice_get xs at ≡ Some x
    → test x ≡ false → first_place test (slice_set xs at y) ≡ replaced_at (test y) at (first_place test xs)
first-set test [] at x y is fails = cc
first-set test (z ∷ xs) zero x y is fails =
    let same : z ≡ x = cc in
    first-cons test y xs ∙ replaced-zero (test y) (first_place test xs)
    ∙ ap (replaced_at (test y) 0) (sym (first-cons test z xs
    ∙ ap (λ t. one_on t (first_place test xs)) (ap test same ∙ fails)))
first-set test (z ∷ xs) (suc at) x y is fails =
    first-cons test z (slice_set xs at y) ∙ ap (one_on (test z)) (first-set test xs at x y is fails)
    ∙ replaced-on (test y) (test z) at (first_place test xs)
    ∙ ap (replaced_at (test y) (suc at)) (sym (first-cons test z xs))

-- one that passes just where the other does
pub first-alike : {A : Type 0} (test : A → Bool) (xs : List A) (at : ℕ) (x y : A) → slice_get xs at ≡ Some x
    → test y ≡ test x → first_place test (slice_set xs at y) ≡ first_place test xs
first-alike test [] at x y is alike = refl
first-alike test (z ∷ xs) zero x y is alike =
    let same : z ≡ x = cc in
    first-cons test y xs
    ∙ ap (λ t. one_on t (first_place test xs)) (alike ∙ ap test (sym same)) ∙ sym (first-cons test z xs)
first-alike test (z ∷ xs) (suc at) x y is alike =
    first-cons test z (slice_set xs at y) ∙ ap (one_on (test z)) (first-alike test xs at x y is alike)
    ∙ sym (first-cons test z xs)

-- one more at the end
abbrev pub later : Option ℕ → Bool → ℕ → Option ℕ
later None passes n = cond passes (Some n) None
later (Some p) passes n = Some p

later-on : (u t : Bool) (o : Option ℕ) (n : ℕ) → one_on u (later o t n) ≡ later (one_on u o) t (suc n)
later-on true t o n = refl
later-on false true None n = refl
later-on false false None n = refl
later-on false t (Some p) n = refl

pub first-push : {A : Type 0} (test : A → Bool) (xs : List A) (x : A)
    → first_place test (xs ++ x ∷ []) ≡ later (first_place test xs) (test x) (length xs)
first-push test [] x = first-cons test x [] ∙ cases (test x)
  where
    cases : (t : Bool) → one_on t None ≡ later None t 0
    cases true = refl
    cases false = refl
first-push test (y ∷ xs) x =
    first-cons test y (xs ++ x ∷ []) ∙ ap (one_on (test y)) (first-push test xs x)
    ∙ later-on (test y) (test x) (first_place test xs) (length xs)
    ∙ ap (λ o. later o (test x) (suc (length xs))) (sym (first-cons test y xs))

-- places that fit a number of 64 bits
pub raised-fits : (from n : ℕ) (o : Option ℕ) → n < 2 ^ 64 → IfSome o (λ p. p < n)
    → option_map (raised_within from) o ≡ option_map (raised from) o
raised-fits from n None fits inside = refl
raised-fits from n (Some p) fits inside = cases (nat_le from p)
  where
    cases : (t : Bool) → Some (cond t (min (p + 1) (2 ^ 64 - 1)) p) ≡ Some (cond t (p + 1) p)
    cases true = ap Some (omega arith)
    cases false = refl

-- places that lie below where one was put in
pub raised-none : (from n : ℕ) (o : Option ℕ) → n ≤ from → IfSome o (λ p. p < n) → o ≡ option_map (raised from) o
raised-none from n None le inside = refl
raised-none from n (Some p) le inside = grind (arith, nat_tests)
