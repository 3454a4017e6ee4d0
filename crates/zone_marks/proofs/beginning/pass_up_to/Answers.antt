use Rattle.zone_marks.proofs.Cited.{ap, arith, is_ended}
use Rattle.zone_marks.proofs.Searches.Passed.{passed-ended, passed-fits, passed-open}
use Rattle.zone_marks.proofs.beginning.pass_up_to.Goals as goal

pub join-runs-requires : goal.join-runs-requires
join-runs-requires c =
    passed-fits _ _ c.requires.come.passed _ _ _ _ c.args.sound.now.sound (rw c.in-Known.is at c.requires.stretch)

pub returns-in-Whole-clause-come : goal.returns-in-Whole-clause-come
returns-in-Whole-clause-come c =
    let p = passed-open _ _ c.requires.come.passed _ c.args.above _ _ (rw c.in-Known.is at c.requires.stretch)
    c.join-runs.ensures.is (ap is_ended c.in-Whole.is) in
    grind arith

pub returns-in-Ended-clause-come : goal.returns-in-Ended-clause-come
returns-in-Ended-clause-come c = grind (arith, passed-ended)
