use Rattle.zone_marks.proofs.Cited.{◌≡◌, take, tally_of}
use Rattle.zone_marks.specs.declared.landmark.Tally.TheVariants as tally
use Rattle.zone_marks.proofs.grouping.joined.Given as goal

abbrev pub invariant-loop-mark : goal.invariant-loop-mark
invariant-loop-mark l = tally.Known l.all ≡ tally_of l.counting (take l.mark-index l.marks)
