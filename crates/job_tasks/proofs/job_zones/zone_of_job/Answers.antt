use Rattle.job_tasks.proofs.Cited.{◌≡◌, Err, inl, rules, outcome_seen, told_err}
use Rattle.job_tasks.proofs.job_zones.zone_of_job.Goals as goal

-- the run did not begin
pub returns-in_err-outcome-clause-fault : goal.returns-in_err-outcome-clause-fault
returns-in_err-outcome-clause-fault c =
    let same : c.from_residual.result ≡ Err c.in_err-outcome.field-0.0 = search rules in
    told_err _ _ _ same (inl c.in_err-outcome.ensures.fault)

-- it stopped, since the host was out of memory
pub returns-then-outcome-clause-fault : goal.returns-then-outcome-clause-fault
returns-then-outcome-clause-fault c = inl tt

pub returns-in-Ok-clause-zone : goal.returns-in-Ok-clause-zone
returns-in-Ok-clause-zone c = (
  outcome_seen c.in_ok-outcome.outcome,
  c.if-outcome.false,
  c.in_ok-outcome.ensures.outcome,
  c.in-Ok.ensures.zone,
)
