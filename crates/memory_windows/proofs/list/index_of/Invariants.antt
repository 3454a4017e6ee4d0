use Rattle.memory_windows.proofs.Cited.{length, ◌-◌, ◌≡◌, ◌+◌, ◌≤◌, drop, position_or_len, is_window}
use Rattle.memory_windows.proofs.list.index_of.Given as goal

abbrev pub invariant-loop-i : goal.invariant-loop-i
invariant-loop-i l = let test = is_window l.window.at l.window.len in
    (l.i ≤ length l.windows) × (l.i + position_or_len test (drop l.i l.windows) ≡ position_or_len test l.windows)

abbrev pub decreases-loop-i : goal.decreases-loop-i
decreases-loop-i l = length l.windows - l.i
