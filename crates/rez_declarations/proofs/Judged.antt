-- One more turn of a loop that judges.
use Rattle.rez_declarations.proofs.Cited.{◌≡◌, ℕ, ◌-◌, ◌<◌, ◌==◌, ◌&&◌, List, ap, Field, uses_of, each_counts, above}

pub counts_on : (n : ℕ) (fields : List Field) → 0 < n
    → each_counts n fields ≡ (uses_of (n - 1) fields == 1 && each_counts (n - 1) fields)
counts_on n fields h = ap (λ k. each_counts k fields) (above n h)
