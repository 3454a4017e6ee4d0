use Rattle.job_tasks.proofs.Cited.{◌≡◌, Err, rules, told_err, none_read}
use Rattle.fork_tasks.specs.declared.fault.ToolFault.TheVariants.{HostMemory as NoMemory}
use Rattle.job_tasks.proofs.playing.read_all.Goals as goal

pub returns-in_err-paths-clause-stopped : goal.returns-in_err-paths-clause-stopped
returns-in_err-paths-clause-stopped g c =
    let same : c.from_residual.result ≡ Err NoMemory = search rules in
    told_err _ _ NoMemory same (none_read _ _)
