use Rattle.fork_wrappers.proofs.Cited.{◌≡◌, ℕ, ◌+◌, ◌-◌, ◌<◌, Bool, true, false, List, Option, Some, sym, ◌∙◌, ap, ◌==◌, if◌then◌else◌}
use Rattle.fork_wrappers.proofs.Cited.{number, offsets, offsets-left, first_with}

-- The first of entries with an ID.

-- an entry, and those after it
next : (id : ℕ) (bytes : List ℕ) (at n k : ℕ) (t : Bool) → k < n → (number 4 at bytes == id) ≡ t
    → first_with id bytes (offsets at 12 (n - k))
    ≡ (if t then Some at else first_with id bytes (offsets (at + 12) 12 (n - (k + 1))))
next id bytes at n k t h is =
    ap (first_with id bytes) (offsets-left at 12 n k h)
    ∙ ap (λ t. if t then Some at else first_with id bytes (offsets (at + 12) 12 (n - (k + 1)))) is

-- it has the ID
pub found_here : (id : ℕ) (bytes : List ℕ) (at n k : ℕ) (total : Option ℕ) → k < n → (number 4 at bytes == id) ≡ true
    → first_with id bytes (offsets at 12 (n - k)) ≡ total → Some at ≡ total
found_here id bytes at n k total h is e = sym (next id bytes at n k true h is) ∙ e

-- it has not
pub passed_by : (id : ℕ) (bytes : List ℕ) (at n k : ℕ) (total : Option ℕ) → k < n → (number 4 at bytes == id) ≡ false
    → first_with id bytes (offsets at 12 (n - k)) ≡ total
    → first_with id bytes (offsets (at + 12) 12 (n - (k + 1))) ≡ total
passed_by id bytes at n k total h is e = sym (next id bytes at n k false h is) ∙ e
