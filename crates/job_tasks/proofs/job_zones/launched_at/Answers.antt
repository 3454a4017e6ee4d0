use Rattle.job_tasks.proofs.Cited.{rules, sym}
use Rattle.job_tasks.proofs.JobZones.{left_some, left_none}
use Rattle.job_tasks.proofs.job_zones.launched_at.Goals as goal

pub returns-in-Some : goal.returns-in-Some
returns-in-Some c =
    left_some c.args.outcome.now.apps.items c.deref.result.now c.args.number c.in-Some.app.now c.as_ref.result
    c.deref.ensures.value c.in-Some.ensures.lookup.3.0 c.in-Some.ensures.lookup.1 (search rules)

pub returns-in-None : goal.returns-in-None
returns-in-None c =
    sym (left_none c.args.outcome.now.apps.items c.deref.result.now c.args.number c.get.result c.deref.ensures.value
    c.get.ensures.lookup c.in-None.is)
