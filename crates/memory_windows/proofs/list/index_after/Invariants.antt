use Rattle.memory_windows.proofs.Cited.{length, ◌-◌, ◌≡◌, ◌+◌, ◌≤◌, drop, prefix_len, ends_by}
use Rattle.memory_windows.proofs.list.index_after.Given as goal

abbrev pub invariant-loop-i : goal.invariant-loop-i
invariant-loop-i l = (l.i ≤ length l.windows)
    × (l.i + prefix_len (ends_by l.at) (drop l.i l.windows) ≡ prefix_len (ends_by l.at) l.windows)

abbrev pub decreases-loop-i : goal.decreases-loop-i
decreases-loop-i l = length l.windows - l.i
