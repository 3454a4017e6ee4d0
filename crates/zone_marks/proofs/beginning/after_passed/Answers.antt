use Rattle.zone_marks.proofs.Cited.{arith}
use Rattle.zone_marks.proofs.Marks.Passing.{begins-here, begins-right}
use Rattle.zone_marks.proofs.Searches.Passed.{passed-known}
use Rattle.zone_marks.proofs.beginning.after_passed.Goals as goal

pub run_start-requires-clause-to : goal.run_start-requires-clause-to
run_start-requires-clause-to c = grind (arith, begins-right, begins-here)

pub returns : goal.returns
returns c bytes to short l =
    let q = c.requires in
    let s = c.run_start.ensures q.mid q.piece in
    passed-known _ _ q bytes to _ (grind arith) short l
