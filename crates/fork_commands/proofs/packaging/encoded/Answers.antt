use Rattle.fork_commands.proofs.Cited.{with_resource_fork}
use Rattle.fork_commands.proofs.Wrappers.{put_not}
use Rattle.fork_commands.proofs.packaging.encoded.Goals as goal

pub returns-in-Err-clause-fault : goal.returns-in-Err-clause-fault
returns-in-Err-clause-fault c = put_not (with_resource_fork c.args.file.now c.args.fork.now) c.in-Err.fault c.of_put.result
    c.of_put.ensures c.in-Err.ensures.fault
