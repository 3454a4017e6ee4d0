use Rattle.fork_wrappers.proofs.Cited.{◌≡◌, ℕ, ◌+◌, ◌-◌, ◌<◌, ◌≤◌, Bool, true, false, ◌&&◌, cond, List, [], ◌∷◌, ◌++◌, Option, Some, None}
use Rattle.fork_wrappers.proofs.Cited.{refl, sym, ◌∙◌, ap, arith, zero, append_assoc, filter, Ok, Err, list_all, option_to_list, append-nil}
use Rattle.fork_wrappers.proofs.Cited.{offsets, offsets-left, only_entry, EntriesFault}

-- an entry that passes, before others
pub passes : (test : ℕ → Bool) (at step n k : ℕ) (total : Bool) → k < n → test at ≡ true
    → list_all test (offsets at step (n - k)) ≡ total → list_all test (offsets (at + step) step (n - (k + 1))) ≡ total
passes test at step n k total h passed e =
    ap (λ t. t && list_all test (offsets (at + step) step (n - (k + 1)))) (sym passed)
    ∙ ap (list_all test) (sym (offsets-left at step n k h)) ∙ e

-- one that does not
pub fails : (test : ℕ → Bool) (at step n k : ℕ) (total : Bool) → k < n → test at ≡ false
    → list_all test (offsets at step (n - k)) ≡ total → false ≡ total
fails test at step n k total h failed e =
    ap (λ t. t && list_all test (offsets (at + step) step (n - (k + 1)))) (sym failed)
    ∙ ap (list_all test) (sym (offsets-left at step n k h)) ∙ e

-- all passed
pub all_passed : (test : ℕ → Bool) (at step n k : ℕ) (total : Bool) → n ≤ k
    → list_all test (offsets at step (n - k)) ≡ total → true ≡ total
all_passed test at step n k total h e = let none : n - k ≡ zero = omega arith in
    ap (λ m. list_all test (offsets at step m)) (sym none) ∙ e

-- the only one of entries is all of them
pub only_one : (xs : List ℕ) (entry : Option ℕ) → only_entry xs ≡ Ok entry → option_to_list entry ≡ xs
only_one [] None h = refl
only_one [] (Some at) h = cc
only_one (x ∷ []) None h = cc
only_one (x ∷ []) (Some at) h = cc
only_one (x ∷ y ∷ xs) entry h = cc

-- several entries stay several
pub several : (xs ys : List ℕ) (fault : EntriesFault) → only_entry xs ≡ Err fault → only_entry (xs ++ ys) ≡ Err fault
several [] ys fault h = cc
several (x ∷ []) ys fault h = cc
several (x ∷ y ∷ xs) ys fault h = h

-- the first entry of those that are left, apart from the others
first_apart : (p : ℕ → Bool) (at : ℕ) (rest : List ℕ) → filter p (at ∷ rest) ≡ filter p (at ∷ []) ++ filter p rest
first_apart p at rest = cases (p at)
  where
    cases : (t : Bool) → cond t (at ∷ filter p rest) (filter p rest) ≡ cond t (at ∷ []) [] ++ filter p rest
    cases true = refl
    cases false = refl

-- what was found with one entry more, and those that are left
apart : (p : ℕ → Bool) (at step n k : ℕ) (front total : List ℕ) → k < n
    → front ++ filter p (offsets at step (n - k)) ≡ total
    → (front ++ filter p (at ∷ [])) ++ filter p (offsets (at + step) step (n - (k + 1))) ≡ total
apart p at step n k front total h e =
    append_assoc front (filter p (at ∷ [])) (filter p (offsets (at + step) step (n - (k + 1))))
    ∙ ap (λ xs. front ++ xs) (sym (first_apart p at (offsets (at + step) step (n - (k + 1))))
    ∙ ap (filter p) (sym (offsets-left at step n k h))) ∙ e

pub goes_on : (p : ℕ → Bool) (at step n k : ℕ) (found next : Option ℕ) (total : List ℕ) → k < n
    → Ok next ≡ only_entry (option_to_list found ++ filter p (at ∷ []))
    → option_to_list found ++ filter p (offsets at step (n - k)) ≡ total
    → option_to_list next ++ filter p (offsets (at + step) step (n - (k + 1))) ≡ total
goes_on p at step n k found next total h is e =
    ap (λ xs. xs ++ filter p (offsets (at + step) step (n - (k + 1))))
    (only_one (option_to_list found ++ filter p (at ∷ [])) next (sym is))
    ∙ apart p at step n k (option_to_list found) total h e

pub stops : (p : ℕ → Bool) (at step n k : ℕ) (found : Option ℕ) (fault : EntriesFault) (total : List ℕ) → k < n
    → Err fault ≡ only_entry (option_to_list found ++ filter p (at ∷ []))
    → option_to_list found ++ filter p (offsets at step (n - k)) ≡ total → Err fault ≡ only_entry total
stops p at step n k found fault total h is e =
    sym (several (option_to_list found ++ filter p (at ∷ [])) (filter p (offsets (at + step) step (n - (k + 1)))) fault
    (sym is)) ∙ ap only_entry (apart p at step n k (option_to_list found) total h e)

pub ends : (p : ℕ → Bool) (at step n k : ℕ) (found : Option ℕ) (total : List ℕ) → n ≤ k
    → option_to_list found ++ filter p (offsets at step (n - k)) ≡ total → Ok found ≡ only_entry total
ends p at step n k found total h e = let none : n - k ≡ zero = omega arith in
    one found ∙ ap only_entry (sym (append-nil (option_to_list found))
    ∙ ap (λ m. option_to_list found ++ filter p (offsets at step m)) (sym none) ∙ e)
  where
    one : (o : Option ℕ) → Ok o ≡ only_entry (option_to_list o)
    one None = refl
    one (Some at) = refl
