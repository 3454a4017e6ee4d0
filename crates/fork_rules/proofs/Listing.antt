use Rattle.fork_rules.proofs.Cited.{Bool, true, false, cond, length, drop, get_or, refl, ◌≡◌, ℕ, ◌+◌, ◌-◌, ◌<◌, ◌≤◌, List, [], ◌∷◌, ◌++◌}
use Rattle.fork_rules.proofs.Cited.{append_assoc, sym, ◌∙◌, ap, arith, zero, append-nil, filter, flat_map, rest-next, offsets, offsets-left}

-- one offset more
pub one_more : (front : List ℕ) (at step n k : ℕ) (total : List ℕ) → k < n
    → front ++ offsets at step (n - k) ≡ total
    → (front ++ at ∷ []) ++ offsets (at + step) step (n - (k + 1)) ≡ total
one_more front at step n k total h e = append_assoc front (at ∷ []) (offsets (at + step) step (n - (k + 1)))
    ∙ ap (λ l. front ++ l) (sym (offsets-left at step n k h)) ∙ e

-- no offset is left
pub no_more : (front : List ℕ) (at step n k : ℕ) (total : List ℕ) → n ≤ k
    → front ++ offsets at step (n - k) ≡ total → front ≡ total
no_more front at step n k total h e = let none : n - k ≡ zero = omega arith in
    sym (append-nil front) ∙ ap (λ m. front ++ offsets at step m) (sym none) ∙ e

-- what one offset gives is listed after what those before it gave
pub next_listed : (f : ℕ → List ℕ) (front : List ℕ) (at step n k : ℕ) (total : List ℕ) → k < n
    → front ++ flat_map f (offsets at step (n - k)) ≡ total
    → (front ++ f at) ++ flat_map f (offsets (at + step) step (n - (k + 1))) ≡ total
next_listed f front at step n k total h e =
    append_assoc front (f at) (flat_map f (offsets (at + step) step (n - (k + 1))))
    ∙ ap (λ l. front ++ flat_map f l) (sym (offsets-left at step n k h)) ∙ e

pub all_listed : (f : ℕ → List ℕ) (front : List ℕ) (at step n k : ℕ) (total : List ℕ) → n ≤ k
    → front ++ flat_map f (offsets at step (n - k)) ≡ total → front ≡ total
all_listed f front at step n k total h e = let none : n - k ≡ zero = omega arith in
    sym (append-nil front) ∙ ap (λ m. front ++ flat_map f (offsets at step m)) (sym none) ∙ e

-- the next item, if it passes, after those before it that passed
pub next_kept : {A : Type 0} (p : A → Bool) (front xs : List A) (i : ℕ) (x : A) (total : List A) → i < length xs
    → x ≡ get_or xs i x → front ++ filter p (drop i xs) ≡ total
    → (front ++ filter p (x ∷ [])) ++ filter p (drop (i + 1) xs) ≡ total
next_kept p front xs i x total h is e = append_assoc front (filter p (x ∷ [])) (filter p (drop (i + 1) xs))
    ∙ ap (λ l. front ++ l) (apart (p x) ∙ sym (ap (filter p) (rest-next xs i x h is))) ∙ e
  where
    apart : (t : Bool) → cond t (x ∷ []) [] ++ filter p (drop (i + 1) xs)
        ≡ cond t (x ∷ filter p (drop (i + 1) xs)) (filter p (drop (i + 1) xs))
    apart true = refl
    apart false = refl
