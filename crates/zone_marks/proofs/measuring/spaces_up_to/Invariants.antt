use Rattle.zone_marks.proofs.Cited.{◌-◌, ◌<◌, Spaces}
use Rattle.zone_marks.proofs.Marks.Counting.{Walked}
use Rattle.zone_marks.proofs.measuring.spaces_up_to.Given as goal

abbrev pub invariant-loop-at : goal.invariant-loop-at
invariant-loop-at l = Walked Spaces l.part.bytes l.from l.at (λ p _. p < l.stop) l.spaces

abbrev pub decreases-loop-at : goal.decreases-loop-at
decreases-loop-at l = l.stop - l.at
