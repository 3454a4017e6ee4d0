use Rattle.fork_tasks.proofs.Linted.{none_linted}
use Rattle.fork_tasks.proofs.linting.add_unread.Goals as goal

pub returns-clause-text : goal.returns-clause-text
returns-clause-text c = λ faulty. none_linted faulty c.args.path.now _ _ c.in_ok-add_refused.ensures
