use Rattle.fork_commands.proofs.Cited.{rewrapped}
use Rattle.fork_commands.proofs.Wrappers.{unwrapped_not}
use Rattle.fork_commands.proofs.packaging.wrapped.Goals as goal

pub returns-in-Err-clause-fault : goal.returns-in-Err-clause-fault
returns-in-Err-clause-fault c = unwrapped_not (rewrapped c.args.file.now c.args.fork.now) c.in-Err.fault c.of_rewrap.result
    c.of_rewrap.ensures c.in-Err.ensures.fault
