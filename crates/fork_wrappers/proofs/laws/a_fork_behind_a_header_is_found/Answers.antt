use Rattle.fork_wrappers.proofs.MadeHeaders.{found_in_first, found_in_second, found_in_third}
use Rattle.fork_wrappers.proofs.laws.a_fork_behind_a_header_is_found.Goals as goal

pub returns-clause-first : goal.returns-clause-first
returns-clause-first c = found_in_first

pub returns-clause-second : goal.returns-clause-second
returns-clause-second c = found_in_second

pub returns-clause-third : goal.returns-clause-third
returns-clause-third c = found_in_third
