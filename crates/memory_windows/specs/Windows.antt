-- The open windows of a memory (Inside Macintosh: Memory, chapter 1: a heap zone is a stretch of memory that no other
-- zone shares).
use Rattle.std.specs.Prelude.{ℕ, ◌+◌, ◌≤◌, ◌⊎◌, ◌&&◌, nat_le, nat_eq, Bool, List, [], ◌∷◌}
use Rattle.std.specs.List.{All, insert, remove, prefix_len, position_or_len}
use Rattle.memory_windows.specs.declared.Window.{Window}

-- The window of n bytes from the place `at` on.
abbrev pub window : ℕ → ℕ → Window
window at n = record { at = at; len = n }

-- The n bytes from the place `at` on meet none of these windows.
abbrev pub IsApart : ℕ → ℕ → List Window → Type 0
IsApart at n ws = All (λ w. (w.at + w.len ≤ at) ⊎ (at + n ≤ w.at)) ws

-- The window w ends by the place `at`.
abbrev pub ends_by : ℕ → Window → Bool
ends_by at w = nat_le (w.at + w.len) at

-- The window w is the window of n bytes from the place `at` on.
abbrev pub is_window : ℕ → ℕ → Window → Bool
is_window at n w = nat_eq w.at at && nat_eq w.len n

-- The windows with one more put in, after the windows that end by its place.
abbrev pub with_window : ℕ → ℕ → List Window → List Window
with_window at n ws = insert ws (prefix_len (ends_by at) ws) (window at n)

-- The windows with this window taken out.
abbrev pub without_window : ℕ → ℕ → List Window → List Window
without_window at n ws = remove ws (position_or_len (is_window at n) ws)

-- The windows lie one after another from the place o on, and end by the place n, so no byte is in two of them.
abbrev pub InOrder : ℕ → List Window → ℕ → Type 0
InOrder o [] n = o ≤ n
InOrder o (w ∷ ws) n = (o ≤ w.at) × InOrder (w.at + w.len) ws n

-- The windows v and w have no byte in common.
abbrev pub Misses : Window → Window → Type 0
Misses v w = (w.at + w.len ≤ v.at) ⊎ (v.at + v.len ≤ w.at)

-- The windows with w put in.
abbrev pub put_in : Window → List Window → List Window
put_in w ws = with_window w.at w.len ws

-- The windows with w taken out.
abbrev pub taken_out : Window → List Window → List Window
taken_out w ws = without_window w.at w.len ws
