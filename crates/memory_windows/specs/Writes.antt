-- Bytes that are written over others.
use Rattle.std.specs.Prelude.{ℕ, ◌+◌, List, ◌++◌, length, take, drop}

-- The list xs with ys written over its items from the place `at` on.
abbrev pub written : ℕ → List ℕ → List ℕ → List ℕ
written at ys xs = take at xs ++ ys ++ drop (at + length ys) xs

-- The n items of the list xs from the place `at` on.
abbrev pub piece : ℕ → ℕ → List ℕ → List ℕ
piece at n xs = take n (drop at xs)
