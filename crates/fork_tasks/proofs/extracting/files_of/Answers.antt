use Rattle.fork_tasks.proofs.Faults.{fork_stopped}
use Rattle.fork_tasks.proofs.extracting.files_of.Goals as goal

pub returns-in_ok-fork_fault-in-Err-clause-fault : goal.returns-in_ok-fork_fault-in-Err-clause-fault
returns-in_ok-fork_fault-in-Err-clause-fault c =
    fork_stopped c.args.extraction.now.fork.now c.in-Err.fault _ _ c.in-Err.ensures.fault
    c.in_ok-fork_fault-in-Err.ensures
