-- Places of a memory that are in no window.
use Rattle.std.specs.Prelude.{ℕ, ◌+◌, ◌≤◌, ◌<◌, ◌⊎◌, List}
use Rattle.std.specs.List.{All}
use Rattle.memory_windows.specs.declared.Window.{Window}

-- The byte at this place is not in the window w.
abbrev pub IsOutside : ℕ → Window → Type 0
IsOutside place w = (place < w.at) ⊎ (w.at + w.len ≤ place)

-- The byte at this place is in none of these windows.
abbrev pub IsOutsideAll : ℕ → List Window → Type 0
IsOutsideAll place ws = All (IsOutside place) ws
