use Rattle.fork_wrappers.proofs.Rewraps.{wrapped_alike, found_rewrapped}
use Rattle.fork_wrappers.proofs.laws.a_rewrapped_fork_is_found.Goals as goal

pub returns-clause-wrapping : goal.returns-clause-wrapping
returns-clause-wrapping c = wrapped_alike

pub returns-clause-fork : goal.returns-clause-fork
returns-clause-fork c = found_rewrapped
