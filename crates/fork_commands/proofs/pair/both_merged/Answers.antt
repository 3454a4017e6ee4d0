use Rattle.fork_commands.proofs.Cited.{Ok, rules, view, Bytes, forks_merged}
use Rattle.fork_commands.proofs.Pairs.{also_ok, also_err, both_there, both_stopped}
use Rattle.fork_commands.proofs.pair.both_merged.Goals as goal

pub returns-clause-made : goal.returns-clause-made
returns-clause-made c = also_ok _ _ c.forks_merged.result (λ made is. both_there
    (forks_merged c.args.replaces c.args.packaging c.args.first.now) c.args.first.now c.args.second.now (view c.in_ok-one.one)
    (view c.in_ok-other.other) (Ok (Bytes made.out.items made.differs)) (search rules) (search rules) is)
    c.forks_merged.ensures.made

pub returns-clause-fault : goal.returns-clause-fault
returns-clause-fault c = also_err _ _ c.forks_merged.result (λ fault stops. both_stopped
    (forks_merged c.args.replaces c.args.packaging c.args.first.now) c.args.first.now c.args.second.now (view c.in_ok-one.one)
    (view c.in_ok-other.other) fault (search rules) (search rules) stops)
    c.forks_merged.ensures.fault
