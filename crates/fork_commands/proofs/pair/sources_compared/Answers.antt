use Rattle.fork_commands.proofs.Cited.{rules, view}
use Rattle.fork_commands.specs.Pairs.{names_of}
use Rattle.fork_commands.proofs.Pairs.{both_texts}
use Rattle.fork_commands.proofs.pair.sources_compared.Goals as goal

pub returns-clause-made : goal.returns-clause-made
returns-clause-made c = both_texts c.args.form (names_of c.args.names) c.args.first.now c.args.second.now (view c.in_ok-one.one)
    (view c.in_ok-other.other) c.in_ok-texts_compared.field-0.out.items c.in_ok-texts_compared.field-0.differs
    (search rules) (search rules) (search rules) (search rules)
