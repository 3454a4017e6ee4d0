use Rattle.zone_marks.proofs.Cited.{arith, rules}
use Rattle.zone_marks.proofs.Joined.Passing.{purged, stopped}
use Rattle.zone_marks.proofs.purging.purge_from.Goals as goal

pub returns-else-goes_on-clause-purged : goal.returns-else-goes_on-clause-purged
returns-else-goes_on-clause-purged c = λ p u.
    let l = c.goes_on.ensures (search rules) in
    stopped p _ _ _ _ _ _ (c.loop-pass.invariant.passing p u) l.0 l.1 l.2

pub returns-after-loop-pass-clause-purged : goal.returns-after-loop-pass-clause-purged
returns-after-loop-pass-clause-purged c = λ p u.
    purged p _ _ _ _ _ _ (c.loop-pass.invariant.passing p u) (omega arith)
