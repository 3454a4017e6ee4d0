use Rattle.fork_commands.proofs.Cited.{rules, view}
use Rattle.fork_commands.proofs.Pairs.{both_compared}
use Rattle.fork_commands.proofs.pair.forks_compared.Goals as goal

pub returns-clause-made : goal.returns-clause-made
returns-clause-made c = both_compared c.args.charset c.args.first.now c.args.second.now (view c.in_ok-one.one)
    (view c.in_ok-other.other) c.in_ok-compared.field-0.out.items c.in_ok-compared.field-0.differs
    (search rules) (search rules) (search rules) (search rules)
