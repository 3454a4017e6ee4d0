use Rattle.fork_tasks.proofs.Cited.{◌≡◌, [], Err, rules, Folder}
use Rattle.fork_tasks.specs.declared.fault.ToolFault.TheVariants.{HostMemory}
use Rattle.fork_tasks.proofs.Accesses.{told_err, unwritten_so, unreported}
use Rattle.fork_tasks.proofs.Extracted.{stops_first}
use Rattle.fork_tasks.proofs.extracting.make_folder.Goals as goal

-- the host is out of memory as the fault is reported
pub returns-in_err-unwritten-in-Err-clause-stopped : goal.returns-in_err-unwritten-in-Err-clause-stopped
returns-in_err-unwritten-in-Err-clause-stopped g c =
    let same : c.from_residual.result ≡ Err HostMemory = search rules in
    told_err _ _ _ same (stops_first (Folder c.args.folder.now) [] _ _ _
    (unreported c.args.folder.now c.in-Err.error _ _ c.in-Err.ensures.unmade))

pub returns-in_ok-unwritten-in-Err-clause-stopped : goal.returns-in_ok-unwritten-in-Err-clause-stopped
returns-in_ok-unwritten-in-Err-clause-stopped g c =
    stops_first (Folder c.args.folder.now) [] _ _ _
    (unwritten_so c.args.folder.now c.in-Err.error _ _ _ c.in-Err.ensures.unmade c.in_ok-unwritten-in-Err.ensures)
