use Rattle.zone_marks.proofs.Cited.{◌-◌, arith, Freeing, Purging, MayPurge, purge_above}
use Rattle.zone_marks.proofs.Joined.PurgeStarts.{place-read, place-way, above-start}
use Rattle.zone_marks.proofs.purging.purge_above.Goals.{After-without_freed}
use Rattle.zone_marks.proofs.purging.purge_above.Goals as goal

pub step_at-step-requires-clause-way : goal.step_at-step-requires-clause-way
step_at-step-requires-clause-way c = place-way _ _ _ c.requires.1

pub step_at-step-requires-clause-some : goal.step_at-step-requires-clause-some
step_at-step-requires-clause-some c = let r = place-read _ _ _ c.requires.1 in omega arith

-- where the pass begins
begins : (c : After-without_freed) (f : Freeing) → MayPurge f c.args.place c.args.part.now.bytes
    → Purging (purge_above (c.step_at-step.result.end - c.free_of_seen.result) f c.args.purges c.args.sparing)
    c.without_freed.result (c.step_at-step.result.end - c.free_of_seen.result) c.step_at-step.result.end c.args.purges 0
    c.args.part.now.bytes
begins c f m =
    let s = c.step_at-step.ensures in
    above-start f _ _ m _ _ _ c.without_freed.ensures.same c.without_freed.ensures.none _ _ s _
    (c.free_of_seen.ensures s.here s.told)

pub purge_from-requires : goal.purge_from-requires
purge_from-requires c = (_, begins (goal.at.purge_from-requires c).After-without_freed _ c.requires.1)

pub returns-clause-purged : goal.returns-clause-purged
returns-clause-purged c = λ f m. rw c.purge_from.ensures.from (c.purge_from.ensures.purged _
    (begins (goal.at.returns-clause-purged c).After-without_freed f m))
