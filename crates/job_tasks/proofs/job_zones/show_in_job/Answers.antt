use Rattle.job_tasks.proofs.Cited.{◌≡◌, Err, refl, rules, Unseen, told_err, quiet_silent, loud_write}
use Rattle.job_tasks.proofs.JobZones.{shows, unprinted}
use Rattle.job_tasks.proofs.job_zones.show_in_job.Goals as goal

pub returns-in_err-text-clause-undone : goal.returns-in_err-text-clause-undone
returns-in_err-text-clause-undone g c =
    let same : c.from_residual.result ≡ Err c.in_err-text.field-0.0 = search rules in
    told_err _ _ _ same (Unseen c.in_err-text.ensures.silent c.in_err-text.ensures.unseen)

pub returns-in_err-text-clause-quiet : goal.returns-in_err-text-clause-quiet
returns-in_err-text-clause-quiet g c =
    let same : c.from_residual.result ≡ Err c.in_err-text.field-0.0 = search rules in
    told_err _ _ _ same (quiet_silent _ _ _ c.in_err-text.ensures.silent)

pub returns-in_err-deliver-clause-undone : goal.returns-in_err-deliver-clause-undone
returns-in_err-deliver-clause-undone g c =
    let same : c.from_residual-in_err-deliver.result ≡ Err c.in_err-deliver.field-0.0 = search rules in
    told_err _ _ _ same (unprinted c.args.asked c.in_ok-text.text.items c.as_slice.result.now _ _ _ _ _ _ _
    c.in_ok-text.ensures.silent (search rules) c.in_ok-text.ensures.sees c.in_err-deliver.ensures.undelivered)

pub returns-in_err-deliver-clause-quiet : goal.returns-in_err-deliver-clause-quiet
returns-in_err-deliver-clause-quiet g c =
    let same : c.from_residual-in_err-deliver.result ≡ Err c.in_err-deliver.field-0.0 = search rules in
    told_err _ _ _ same (loud_write _ _ _ _ _ _ c.in_err-deliver.ensures.undelivered.1)

pub returns-clause-done : goal.returns-clause-done
returns-clause-done g c = (
  refl,
  shows c.args.asked c.in_ok-text.text.items c.as_slice.result.now _ _ _ _ _ _ c.in_ok-text.ensures.silent
      (search rules) c.in_ok-text.ensures.sees c.in_ok-deliver.ensures.delivered,
)
