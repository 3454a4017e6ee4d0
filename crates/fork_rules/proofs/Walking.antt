use Rattle.fork_rules.proofs.Cited.{◌≡◌, ℕ, ◌+◌, ◌-◌, ◌<◌, ◌≤◌, Option, Some, None, sym, ◌∙◌, ap, arith, zero, offsets, offsets-left}
use Rattle.fork_rules.proofs.Cited.{Broken, first, first_of}

-- what stands at the first of the offsets breaks no rule
pub passes : (test : ℕ → Option Broken) (at step n k : ℕ) (total : Option Broken) → k < n → None ≡ test at
    → first_of test (offsets at step (n - k)) ≡ total
    → first_of test (offsets (at + step) step (n - (k + 1))) ≡ total
passes test at step n k total h whole e =
    ap (λ b. first b (first_of test (offsets (at + step) step (n - (k + 1))))) whole
    ∙ ap (first_of test) (sym (offsets-left at step n k h)) ∙ e

-- it breaks one
pub breaks : (test : ℕ → Option Broken) (at step n k : ℕ) (b : Broken) (total : Option Broken) → k < n
    → Some b ≡ test at → first_of test (offsets at step (n - k)) ≡ total → Some b ≡ total
breaks test at step n k b total h broken e =
    ap (λ o. first o (first_of test (offsets (at + step) step (n - (k + 1))))) broken
    ∙ ap (first_of test) (sym (offsets-left at step n k h)) ∙ e

-- nothing is left
pub ends : (test : ℕ → Option Broken) (at step n k : ℕ) (total : Option Broken) → n ≤ k
    → first_of test (offsets at step (n - k)) ≡ total → None ≡ total
ends test at step n k total h e = let none : n - k ≡ zero = omega arith in
    ap (λ m. first_of test (offsets at step m)) (sym none) ∙ e
