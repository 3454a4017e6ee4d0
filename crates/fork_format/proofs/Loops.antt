use Rattle.fork_format.proofs.Cited.{◌≡◌, ℕ, ◌+◌, ◌*◌, ◌-◌, ◌<◌, ◌≤◌, Bool, true, false, ◌&&◌, cond, List, [], ◌∷◌, Option, Some, None}
use Rattle.fork_format.proofs.Cited.{refl, sym, ◌∙◌, ap, arith, suc, zero, add_assoc, sum_by, map, ◌++◌, append_assoc, list_all, option_map}
use Rattle.fork_format.proofs.Cited.{map_push, sum_by-cons, offsets, sizes_if}

-- what is counted already, added to what is still to come
abbrev pub counted : ℕ → Option ℕ → Option ℕ
counted n rest = option_map (λ m. n + m) rest

-- the first of the offsets that are left
pub offsets-left : (at step n k : ℕ) → k < n → offsets at step (n - k) ≡ at ∷ offsets (at + step) step (n - (k + 1))
offsets-left at step n k h = let e : n - k ≡ suc (n - (k + 1)) = omega arith in ap (offsets at step) e

-- the sum over items that all pass
abbrev pub tally : (ℕ → Bool) → (ℕ → ℕ) → List ℕ → Option ℕ
tally test size xs = sizes_if (list_all test xs) (sum_by size xs)

-- an item that doesn't pass ends the count
pub tally_stops : (test : ℕ → Bool) (size : ℕ → ℕ) (d at step n k : ℕ) (total : Option ℕ) → k < n
    → cond (test at) (Some (size at)) None ≡ None
    → counted d (tally test size (offsets at step (n - k))) ≡ total → None ≡ total
tally_stops test size d at step n k total h stops e =
    cases (test at) stops (ap (λ xs. counted d (tally test size xs)) (sym (offsets-left at step n k h)) ∙ e)
  where
    cases : (t : Bool) → cond t (Some (size at)) None ≡ None
        → counted d (sizes_if (t && list_all test (offsets (at + step) step (n - (k + 1))))
        (sum_by size (at ∷ offsets (at + step) step (n - (k + 1))))) ≡ total → None ≡ total
    cases true s e = cc
    cases false s e = e

-- one that passes is counted
pub tally_goes_on : (test : ℕ → Bool) (size : ℕ → ℕ) (d at step n k s : ℕ) (total : Option ℕ) → k < n
    → cond (test at) (Some (size at)) None ≡ Some s
    → counted d (tally test size (offsets at step (n - k))) ≡ total
    → counted (d + s) (tally test size (offsets (at + step) step (n - (k + 1)))) ≡ total
tally_goes_on test size d at step n k s total h passes e =
    cases (test at) passes (ap (λ xs. counted d (tally test size xs)) (sym (offsets-left at step n k h)) ∙ e)
  where
    rest : List ℕ
    rest = offsets (at + step) step (n - (k + 1))

    more : (l : Bool) (m : ℕ) → size at ≡ s → counted (d + s) (sizes_if l m) ≡ counted d (sizes_if l (size at + m))
    more true m is = ap Some (rw (← is) (add_assoc d (size at) m))
    more false m is = refl

    cases : (t : Bool) → cond t (Some (size at)) None ≡ Some s
        → counted d (sizes_if (t && list_all test rest) (sum_by size (at ∷ rest))) ≡ total
        → counted (d + s) (tally test size rest) ≡ total
    cases true p e = more (list_all test rest) (sum_by size rest) (cc)
        ∙ ap (λ m. counted d (sizes_if (list_all test rest) m)) (sym (sum_by-cons size at rest)) ∙ e
    cases false p e = cc

-- an item of a sum
pub sum-goes_on : (size : ℕ → ℕ) (d at step n k total : ℕ) → k < n → d + sum_by size (offsets at step (n - k)) ≡ total
    → (d + size at) + sum_by size (offsets (at + step) step (n - (k + 1))) ≡ total
sum-goes_on size d at step n k total h e =
    add_assoc d (size at) _ ∙ ap (λ m. d + m) (sym (sum_by-cons size at (offsets (at + step) step (n - (k + 1))))
    ∙ ap (sum_by size) (sym (offsets-left at step n k h))) ∙ e

-- nothing is left
pub tally_ends : (test : ℕ → Bool) (size : ℕ → ℕ) (d at step n k : ℕ) (total : Option ℕ) → n ≤ k
    → counted d (tally test size (offsets at step (n - k))) ≡ total → Some d ≡ total
tally_ends test size d at step n k total h e =
    let none : n - k ≡ 0 = omega arith in
    let zero_more : d ≡ d + 0 = omega arith in
    ap Some zero_more ∙ ap (λ m. counted d (tally test size (offsets at step m))) (sym none) ∙ e

-- an item that passes, and so do those behind it
abbrev pub GoesOn : (ℕ → Bool) → ℕ → ℕ → ℕ → ℕ → Type 0
GoesOn test at step n k = (test at ≡ true) × (list_all test (offsets (at + step) step (n - (k + 1))) ≡ true)

-- items that all pass, and those that are read from them
pub all_goes_on : (test : ℕ → Bool) (at step n k : ℕ) → k < n → list_all test (offsets at step (n - k)) ≡ true
    → GoesOn test at step n k
all_goes_on test at step n k h e = both (test at) (list_all test (offsets (at + step) step (n - (k + 1))))
    (ap (list_all test) (sym (offsets-left at step n k h)) ∙ e)
  where
    both : (a b : Bool) → (a && b) ≡ true → (a ≡ true) × (b ≡ true)
    both true b h = (refl, h)
    both false b h = cc

pub map-goes_on : {A : Type 0} (f : ℕ → A) (front : List A) (at step n k : ℕ) (total : List A) → k < n
    → front ++ map f (offsets at step (n - k)) ≡ total
    → (front ++ f at ∷ []) ++ map f (offsets (at + step) step (n - (k + 1))) ≡ total
map-goes_on f front at step n k total h e = append_assoc front (f at ∷ [])
    (map f (offsets (at + step) step (n - (k + 1)))) ∙ ap (λ l. front ++ map f l) (sym (offsets-left at step n k h))
    ∙ e

-- an item that is read and pushed behind those that were read before
pub pushed_goes_on : {A B : Type 0} (view : B → A) (f : ℕ → A) (xs xs' : List B) (x : B) (at step n k : ℕ)
    (total : List A) → k < n → xs' ≡ xs ++ x ∷ [] → view x ≡ f at
    → map view xs ++ map f (offsets at step (n - k)) ≡ total
    → map view xs' ++ map f (offsets (at + step) step (n - (k + 1))) ≡ total
pushed_goes_on view f xs xs' x at step n k total h pushed read e =
    ap (λ l. map view l ++ map f (offsets (at + step) step (n - (k + 1)))) pushed
    ∙ ap (λ l. l ++ map f (offsets (at + step) step (n - (k + 1)))) (map_push view xs x)
    ∙ ap (λ y. (map view xs ++ y ∷ []) ++ map f (offsets (at + step) step (n - (k + 1)))) read
    ∙ map-goes_on f (map view xs) at step n k total h e

-- one offset more
pub offsets-push : (first k : ℕ) → offsets first 8 (k + 1) ≡ offsets first 8 k ++ (first + 8 * k) ∷ []
offsets-push first k = let e : k + 1 ≡ suc k = omega arith in ap (offsets first 8) e ∙ rest first k
  where
    rest : (first k : ℕ) → offsets first 8 (suc k) ≡ offsets first 8 k ++ (first + 8 * k) ∷ []
    rest first zero = let e : first ≡ first + 8 * 0 = omega arith in ap (λ n. n ∷ []) e
    rest first (suc k) = let e : first + 8 + 8 * k ≡ first + 8 * suc k = omega arith in
        ap (λ l. first ∷ l) (rest (first + 8) k ∙ ap (λ n. offsets (first + 8) 8 k ++ n ∷ []) e)
