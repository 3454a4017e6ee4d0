use Rattle.zone_marks.proofs.Cited.{arith, left-zone}
use Rattle.zone_marks.proofs.Marks.Passing.{begins-here}
use Rattle.zone_marks.proofs.keeping.Landmarks.largest_run.Goals as goal

pub stretch_above-requires-clause-begins : goal.stretch_above-requires-clause-begins
stretch_above-requires-clause-begins c = begins-here 0 _

pub returns : goal.returns
returns c = grind (arith, left-zone)
