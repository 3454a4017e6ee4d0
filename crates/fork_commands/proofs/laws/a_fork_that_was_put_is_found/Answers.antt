use Rattle.fork_commands.proofs.PutForks.{found_again, encoded_again, opened_again}
use Rattle.fork_commands.proofs.laws.a_fork_that_was_put_is_found.Goals as goal

pub returns-clause-fork : goal.returns-clause-fork
returns-clause-fork c = found_again

pub returns-clause-encoded : goal.returns-clause-encoded
returns-clause-encoded c = encoded_again

pub returns-clause-rest : goal.returns-clause-rest
returns-clause-rest c = opened_again
