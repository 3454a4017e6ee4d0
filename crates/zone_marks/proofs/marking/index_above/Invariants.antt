use Rattle.zone_marks.proofs.Cited.{◌≤◌, ◌<◌, ◌-◌, length, drop, get_or, next_of, no_mark, above_all}
use Rattle.zone_marks.proofs.marking.index_above.Given as goal

abbrev pub invariant-loop-low : goal.invariant-loop-low
invariant-loop-low l = (l.low ≤ l.high) × (l.high ≤ length l.marks) × (l.place ≤ next_of above_all (drop l.high l.marks))
    × (0 < l.low → (get_or l.marks (l.low - 1) no_mark).at < l.place)

abbrev pub decreases-loop-low : goal.decreases-loop-low
decreases-loop-low l = l.high - l.low
