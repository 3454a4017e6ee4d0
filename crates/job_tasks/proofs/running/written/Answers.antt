use Rattle.job_tasks.proofs.Cited.{◌≡◌, Err, refl, rules, outcome_seen, HostMemory, IsUnwell, Halted, NotWritten, told_err}
use Rattle.job_tasks.proofs.running.written.Goals as goal

-- what the run leaves was not written to its end
pub returns-in_err-write_all-clause-unwell : goal.returns-in_err-write_all-clause-unwell
returns-in_err-write_all-clause-unwell g c =
    let same : c.from_residual.result ≡ Err c.in_err-write_all.field-0.0 = search rules in
    told_err _ _ _ same (NotWritten c.in_err-write_all.ensures.stopped)

-- the run stopped, and all that it leaves was written
pub returns-then-outcome-clause-unwell : goal.returns-then-outcome-clause-unwell
returns-then-outcome-clause-unwell g c = Halted c.if-outcome.true c.in_ok-write_all.ensures.written refl
