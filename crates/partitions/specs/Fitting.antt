-- What is granted, said of the places of a memory and not of its holes.
use Rattle.std.specs.Prelude.{◌≡◌, ℕ, ◌+◌, ◌≤◌, ◌⊎◌, List, IsSomeAnd}
use Rattle.memory_windows.specs.declared.Window.{Window}
use Rattle.memory_windows.specs.Windows.{IsApart}
use Rattle.partitions.specs.Grant.{grant}

-- The n bytes from the place `at` on lie in the memory, and meet no granted window.
abbrev pub CanLie : ℕ → List Window → ℕ → ℕ → Type 0
CanLie memory windows n at = (at + n ≤ memory) × IsApart at n windows

-- Wherever the preferred size can lie, a partition of that size is granted there or lower.
abbrev pub GivesPreferred : ℕ → List Window → ℕ → ℕ → Type 0
GivesPreferred memory windows preferred minimum = (at : ℕ) → CanLie memory windows preferred at
    → IsSomeAnd (grant memory windows preferred minimum) (λ w. (w.len ≡ preferred) × (w.at ≤ at))

-- Wherever n bytes can lie, and the minimum is at most n, a partition is granted: of the preferred size, or of n bytes
-- or more, and if of exactly n bytes, then there or lower.
abbrev pub GivesLargest : ℕ → List Window → ℕ → ℕ → Type 0
GivesLargest memory windows preferred minimum = (n at : ℕ) → minimum ≤ n → CanLie memory windows n at
    → IsSomeAnd (grant memory windows preferred minimum)
    (λ w. (w.len ≡ preferred) ⊎ ((n ≤ w.len) × (n ≡ w.len → w.at ≤ at)))
