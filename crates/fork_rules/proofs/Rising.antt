use Rattle.fork_rules.proofs.Cited.{◌≡◌, ℕ, ◌+◌, ◌-◌, ◌<◌, ◌≤◌, Bool, true, false, ◌&&◌, List, [], ◌∷◌, length, drop, refl, sym, ◌∙◌, ap}
use Rattle.fork_rules.proofs.Cited.{arith, nat_le, slice_index, le-leb, leb-true, drop_more, length-drop, do_rise}

-- a number and the next of a list
two_more : (xs : List ℕ) (i : ℕ) → 1 ≤ i → i < length xs
    → drop (i - 1) xs ≡ slice_index xs (i - 1) ∷ slice_index xs i ∷ drop (i + 1) xs
two_more xs i some h =
    let e : i - 1 + 1 ≡ i = omega arith in
    drop_more xs (i - 1) 0 (omega arith) ∙ ap (λ k. slice_index xs (i - 1) ∷ drop k xs) e
    ∙ ap (λ l. slice_index xs (i - 1) ∷ l) (drop_more xs i 0 h)

-- a number that is no greater than the next
pub rises_on : (xs : List ℕ) (i : ℕ) (total : Bool) → 1 ≤ i → i < length xs → slice_index xs (i - 1) ≤ slice_index xs i
    → do_rise (drop (i - 1) xs) ≡ total → do_rise (drop i xs) ≡ total
rises_on xs i total some h up e =
    ap do_rise (drop_more xs i 0 h)
    ∙ ap (λ t. t && do_rise (slice_index xs i ∷ drop (i + 1) xs)) (sym (le-leb (slice_index xs (i - 1)) (slice_index xs i) up))
    ∙ sym (ap do_rise (two_more xs i some h)) ∙ e

-- one that is greater
pub falls : (xs : List ℕ) (i : ℕ) (total : Bool) → 1 ≤ i → i < length xs → slice_index xs i < slice_index xs (i - 1)
    → do_rise (drop (i - 1) xs) ≡ total → false ≡ total
falls xs i total some h down e = cases (nat_le (slice_index xs (i - 1)) (slice_index xs i)) refl
    (sym (ap do_rise (two_more xs i some h)) ∙ e)
  where
    cases : (t : Bool) → nat_le (slice_index xs (i - 1)) (slice_index xs i) ≡ t
        → (t && do_rise (slice_index xs i ∷ drop (i + 1) xs)) ≡ total → false ≡ total
    cases true is e = absurd (let up = leb-true (slice_index xs (i - 1)) (slice_index xs i) is in omega (arith, up, down))
    cases false is e = e

-- the last number, and no number
pub risen : (xs : List ℕ) (i : ℕ) (total : Bool) → 1 ≤ i → length xs ≤ i → do_rise (drop (i - 1) xs) ≡ total → true ≡ total
risen xs i total some h e = sym (short (drop (i - 1) xs) (let f = length-drop (i - 1) xs in omega (arith, f))) ∙ e
  where
    short : (ys : List ℕ) → length ys ≤ 1 → do_rise ys ≡ true
    short [] low = refl
    short (y ∷ []) low = refl
    short (y ∷ z ∷ ys) low = absurd (omega arith)
