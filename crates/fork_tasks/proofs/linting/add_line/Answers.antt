use Rattle.fork_tasks.proofs.Cited.{on_ok_weaker}
use Rattle.fork_tasks.proofs.linting.add_line.Goals as goal

pub returns : goal.returns
returns c = on_ok_weaker c.add_words.result (λ h. (_, h)) c.add_words.ensures
