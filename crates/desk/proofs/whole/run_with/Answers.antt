use Rattle.desk.proofs.Cited.{◌≡◌, false, refl, view, KeepsPromises, keeps_promises, IsAlone, InItsSteps}
use Rattle.desk.proofs.Givens.{each-launched}
use Rattle.desk.proofs.Free.{never-granted}
use Rattle.desk.proofs.Lying.{lie-at-end}
use Rattle.desk.proofs.whole.run_with.Goals as goal

pub returns-in-Ok-outcome-clause-alone : goal.returns-in-Ok-outcome-clause-alone
returns-in-Ok-outcome-clause-alone g c =
    each-launched IsAlone
    (λ resources script size n asked. (refl, refl))
    c.args.job.now (view c.in-Ok.system) c.run_by-outcome.result.0 c.in-Ok-outcome.outcome c.in-Ok.ensures.system
    c.run_by-outcome.ensures.outcome c.in-Ok-outcome.is

pub returns-in-Ok-outcome-clause-laws : goal.returns-in-Ok-outcome-clause-laws
returns-in-Ok-outcome-clause-laws g c =
    each-launched (InItsSteps KeepsPromises)
    (λ resources script size n asked. keeps_promises resources size script n)
    c.args.job.now (view c.in-Ok.system) c.run_by-outcome.result.0 c.in-Ok-outcome.outcome c.in-Ok.ensures.system
    c.run_by-outcome.ensures.outcome c.in-Ok-outcome.is

pub returns-in-Ok-outcome-clause-lies : goal.returns-in-Ok-outcome-clause-lies
returns-in-Ok-outcome-clause-lies g c =
    lie-at-end (g.Z.ZoneMaker.left c.run_by-outcome.result.1) (λ o. o.stopped ≡ false) c.args.job.now (view c.in-Ok.system)
    c.run_by-outcome.result.0 c.in-Ok-outcome.outcome c.in-Ok.ensures.system c.run_by-outcome.ensures.lies c.in-Ok-outcome.is

pub returns-in-Ok-outcome-clause-outside : goal.returns-in-Ok-outcome-clause-outside
returns-in-Ok-outcome-clause-outside g c =
    never-granted
    (λ place. g.Z.ZoneMaker.byte c.run_by-outcome.result.1 place ≡ g.Z.ZoneMaker.byte c.args.zones place)
    c.args.job.now (view c.in-Ok.system) c.run_by-outcome.result.0 c.in-Ok-outcome.outcome
    c.in-Ok.ensures.system c.run_by-outcome.ensures.outside c.in-Ok-outcome.is
