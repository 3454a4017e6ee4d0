use Rattle.zone_marks.proofs.Cited.{◌-◌, ◌≡◌, false, is_purgeable}
use Rattle.zone_marks.proofs.Marks.Passing.{Passed}
use Rattle.zone_marks.proofs.going.first_going.Given as goal

abbrev pub invariant-loop-at : goal.invariant-loop-at
invariant-loop-at l = Passed l.part.bytes l.from l.at (λ _ b. is_purgeable b ≡ false)

abbrev pub decreases-loop-at : goal.decreases-loop-at
decreases-loop-at l = l.stop - l.at
