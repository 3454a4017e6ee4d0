use Rattle.fork_commands.proofs.Cited.{good_fork_in}
use Rattle.fork_commands.proofs.Pairs.{put_unmade}
use Rattle.fork_commands.proofs.pair.fork_put.Goals as goal

pub returns-in-Err-clause-fault : goal.returns-in-Err-clause-fault
returns-in-Err-clause-fault c = put_unmade c.args.first.now c.in-Err.fault c.at.result (good_fork_in c.args.second.now)
    c.at.ensures c.in-Err.ensures.fault
