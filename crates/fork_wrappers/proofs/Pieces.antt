use Rattle.fork_wrappers.proofs.Cited.{◌≡◌, ℕ, ◌+◌, ◌-◌, ◌<◌, ◌≤◌, List, [], ◌∷◌, ◌++◌, replicate, sym, ◌∙◌, ap, arith, suc, zero}
use Rattle.fork_wrappers.proofs.Cited.{append_assoc, flat_map, append-nil, offsets, offsets-left}

-- What is written piece by piece.

-- one zero of those that are left
pub zero_more : (out total : List ℕ) (n k : ℕ) → k < n → out ++ replicate (n - k) 0 ≡ total
    → (out ++ 0 ∷ []) ++ replicate (n - (k + 1)) 0 ≡ total
zero_more out total n k h e = let left : n - k ≡ suc (n - (k + 1)) = omega arith in
    append_assoc out (0 ∷ []) (replicate (n - (k + 1)) 0) ∙ ap (λ m. out ++ replicate m 0) (sym left) ∙ e

-- no zero is left
pub no_zero_more : (out total : List ℕ) (n k : ℕ) → n ≤ k → out ++ replicate (n - k) 0 ≡ total → out ≡ total
no_zero_more out total n k h e = let none : n - k ≡ zero = omega arith in
    sym (append-nil out) ∙ ap (λ m. out ++ replicate m 0) (sym none) ∙ e

-- the piece of one offset of those that are left
pub piece_more : (f : ℕ → List ℕ) (out total : List ℕ) (at step n k : ℕ) → k < n
    → out ++ flat_map f (offsets at step (n - k)) ≡ total
    → (out ++ f at) ++ flat_map f (offsets (at + step) step (n - (k + 1))) ≡ total
piece_more f out total at step n k h e =
    append_assoc out (f at) (flat_map f (offsets (at + step) step (n - (k + 1))))
    ∙ ap (λ l. out ++ flat_map f l) (sym (offsets-left at step n k h)) ∙ e

-- no offset is left
pub no_piece_more : (f : ℕ → List ℕ) (out total : List ℕ) (at step n k : ℕ) → n ≤ k
    → out ++ flat_map f (offsets at step (n - k)) ≡ total → out ≡ total
no_piece_more f out total at step n k h e = let none : n - k ≡ zero = omega arith in
    sym (append-nil out) ∙ ap (λ m. out ++ flat_map f (offsets at step m)) (sym none) ∙ e
