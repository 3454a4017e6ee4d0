use Rattle.res_calls.proofs.Following.{fork-placed, content-same, fork-again}
use Rattle.res_calls.proofs.laws.an_updated_fork_is_read_again.Goals as goal

pub returns-clause-placed : goal.returns-clause-placed
returns-clause-placed c = fork-placed

pub returns-clause-read_again : goal.returns-clause-read_again
returns-clause-read_again c = fork-again

pub returns-clause-nothing_is_cleared : goal.returns-clause-nothing_is_cleared
returns-clause-nothing_is_cleared c = content-same
