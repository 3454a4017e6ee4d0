use Rattle.job_tasks.proofs.Cited.{◌≡◌, Err, rules, told_err}
use Rattle.fork_tasks.specs.declared.fault.ToolFault.TheVariants.{HostMemory as NoMemory}
use Rattle.job_tasks.proofs.Played.{unprinted}
use Rattle.job_tasks.proofs.playing.print_transcript.Goals as goal

-- there is no memory to run the script
pub returns-in_err-given-clause-undone : goal.returns-in_err-given-clause-undone
returns-in_err-given-clause-undone g c =
    let same : c.from_residual.result ≡ Err NoMemory = search rules in
    told_err _ _ NoMemory same (unprinted _ _ _)
