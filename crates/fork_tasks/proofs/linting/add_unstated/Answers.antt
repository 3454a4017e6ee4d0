use Rattle.fork_tasks.proofs.Linted.{one_alone}
use Rattle.fork_tasks.proofs.linting.add_unstated.Goals as goal

pub returns-clause-text : goal.returns-clause-text
returns-clause-text c = one_alone c.args.path.now _ _ _ c.args.fault.line c.in_ok-add_words.ensures
