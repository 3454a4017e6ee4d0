-- The partition that a launched application is granted: of its preferred size where there is room, else as large as
-- possible, but not below its minimum size (Inside Macintosh: Processes, chapter 2, "Launching Other Applications";
-- Macintosh Toolbox Essentials, chapter 2, "The Size Resource").
use Rattle.std.specs.Prelude.{ℕ, ◌+◌, ◌-◌, nat_le, nat_lt, Bool, Option, Some, None, List, [], ◌∷◌, if◌then◌else◌}
use Rattle.std.specs.List.{find}
use Rattle.std.specs.Option.{option_map, option_or}
use Rattle.memory_windows.specs.declared.Window.{Window}
use Rattle.memory_windows.specs.Windows.{window}

-- The holes of a memory from a place on, lowest first: what lies below, between and above the granted windows, which
-- stand in the order of their places. A hole may have no bytes.
abbrev pub holes : ℕ → ℕ → List Window → List Window
holes memory from [] = window from (memory - from) ∷ []
holes memory from (w ∷ ws) = window from (w.at - from) ∷ holes memory (w.at + w.len) ws

-- The hole has n bytes or more.
abbrev pub has_room : ℕ → Window → Bool
has_room n hole = nat_le n hole.len

-- The n bytes at the lower end of a hole.
abbrev pub lower_end : ℕ → Window → Window
lower_end n hole = window hole.at n

-- The larger of two holes; the lower one where they are equally large.
abbrev pub larger_hole : Window → Window → Window
larger_hole low high = if nat_lt low.len high.len then high else low

-- The largest of these holes; the lowest one where several are equally large.
abbrev pub largest : List Window → Window
largest [] = window 0 0
largest (hole ∷ above) = larger_hole hole (largest above)

-- The hole, where it has at least n bytes.
abbrev pub at_least : ℕ → Window → Option Window
at_least n hole = if has_room n hole then Some hole else None

-- The partition that is granted of these holes: the lower end of the lowest hole that has the preferred size; else the
-- whole largest hole, where it has the minimum size; else none.
abbrev pub grant_of : List Window → ℕ → ℕ → Option Window
grant_of hs preferred minimum =
    option_or (option_map (lower_end preferred) (find (has_room preferred) hs)) (at_least minimum (largest hs))

-- The partition that is granted in a memory in which these windows are granted already.
abbrev pub grant : ℕ → List Window → ℕ → ℕ → Option Window
grant memory windows preferred minimum = grant_of (holes memory 0 windows) preferred minimum
