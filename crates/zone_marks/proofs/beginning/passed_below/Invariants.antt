use Rattle.zone_marks.proofs.Cited.{◌-◌, ◌≤◌, HasCome}
use Rattle.zone_marks.proofs.beginning.passed_below.Given as goal

abbrev pub invariant-loop-passed : goal.invariant-loop-passed
invariant-loop-passed l = record {
  come : HasCome l.bytes l.marks l.sound.part.bytes l.passed;
  low : l.passed.index ≤ l.last;
}

abbrev pub decreases-loop-passed : goal.decreases-loop-passed
decreases-loop-passed l = l.last - l.passed.index
