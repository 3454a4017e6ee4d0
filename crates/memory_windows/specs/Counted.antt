-- The number of times that a window stands in a list.
use Rattle.std.specs.Prelude.{ℕ, ◌+◌, List, [], ◌∷◌, if◌then◌else◌}
use Rattle.memory_windows.specs.declared.Window.{Window}
use Rattle.memory_windows.specs.Windows.{is_window}

-- 1 where w is the window of n bytes from the place `at` on, and 0 where it is another.
abbrev pub one : ℕ → ℕ → Window → ℕ
one at n w = if is_window at n w then 1 else 0

-- The number of times that the window of n bytes from the place `at` on stands in the list.
abbrev pub times : ℕ → ℕ → List Window → ℕ
times at n [] = 0
times at n (w ∷ ws) = one at n w + times at n ws
