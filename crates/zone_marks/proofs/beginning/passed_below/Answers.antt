use Rattle.zone_marks.proofs.Cited.{arith}
use Rattle.zone_marks.proofs.Searches.Passed.{come-none}
use Rattle.zone_marks.proofs.beginning.passed_below.Goals as goal

pub loop-passed-init : goal.loop-passed-init
loop-passed-init c = grind (arith, come-none)
