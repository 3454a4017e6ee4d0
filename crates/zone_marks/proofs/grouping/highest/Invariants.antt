use Rattle.zone_marks.proofs.Cited.{◌≤◌, ◌<◌, ℕ, get_or, no_mark}
use Rattle.zone_marks.proofs.grouping.highest.Given as goal

abbrev pub invariant-loop-mark : goal.invariant-loop-mark
invariant-loop-mark l = (index : ℕ) → index < l.mark-index → (get_or l.marks index no_mark).most ≤ l.most
