use Rattle.fork_commands.proofs.Pairs.{set_stopped}
use Rattle.fork_commands.proofs.pair.resource_set.Goals as goal

pub returns-in-Err-clause-fault : goal.returns-in-Err-clause-fault
returns-in-Err-clause-fault c = set_stopped c.args.setting.now c.args.packaging c.args.first.now c.args.second.now
    c.in-Err.fault c.at.result c.at.ensures c.in-Err.ensures.fault
