use Rattle.script_text.proofs.Cited.{sym, subst, AreApps}
use Rattle.script_text.proofs.JobInputs.{apps_in_order}
use Rattle.script_text.proofs.job.read_job.Goals as goal

pub returns-in-Some-clause-apps : goal.returns-in-Some-clause-apps
returns-in-Some-clause-apps c =
    subst AreApps (sym c.into_items.ensures) (apps_in_order c.reader.inside.inputs c.reader.invariant.order)
