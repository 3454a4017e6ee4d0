use Rattle.zone_marks.proofs.Cited.{max, ◌-◌, ◌≤◌, ◌<◌, free_of, largest_free, left_in, Runs}
use Rattle.zone_marks.proofs.Marks.Counting.{Walked}
use Rattle.zone_marks.proofs.measuring.measure_up_to.Given as goal

abbrev pub invariant-loop-at : goal.invariant-loop-at
invariant-loop-at l = record {
  walked : Walked Runs l.part.bytes l.from l.at (λ p b. (free_of b ≤ l.most) × (p < l.stop)) l.runs;
  reached : max l.most (largest_free (left_in l.at l.part.bytes)) ≤ largest_free (left_in l.from l.part.bytes);
}

abbrev pub decreases-loop-at : goal.decreases-loop-at
decreases-loop-at l = l.stop - l.at
