use Rattle.std.specs.Prelude.{ℕ, ◌%◌, ◌||◌, Bool, List, [], ◌∷◌, ◌++◌, zero, suc, max, nat_eq, if◌then◌else◌}
use Rattle.std.specs.Int.{div_ceil}

-- The reports that a watch receives: after how many of the steps, or of the events, each of them is made.

-- The number of steps from one report to the next: a hundredth of all, rounded up, and at least 1.
abbrev pub stride : ℕ → ℕ
stride of = max (div_ceil of 100) 1

-- Holds where a report is made after `n` steps of `of` in all: after each stride, and after the last step.
abbrev pub is_reported : ℕ → ℕ → Bool
is_reported n of = nat_eq n of || nat_eq (n % stride of) 0

-- The report after `n` steps of `of` in all, if there is one.
abbrev pub report : ℕ → ℕ → List ℕ
report n of = if is_reported n of then n ∷ [] else []

-- The reports after the first `n` steps, in order.
abbrev pub reports : ℕ → ℕ → List ℕ
reports zero of = []
reports (suc n) of = reports n of ++ report (suc n) of
