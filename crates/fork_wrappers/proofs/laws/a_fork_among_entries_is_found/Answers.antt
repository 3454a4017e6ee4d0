use Rattle.fork_wrappers.proofs.MadeEntries.{found_in_single, found_in_double}
use Rattle.fork_wrappers.proofs.laws.a_fork_among_entries_is_found.Goals as goal

pub returns-clause-single : goal.returns-clause-single
returns-clause-single c = found_in_single

pub returns-clause-double : goal.returns-clause-double
returns-clause-double c = found_in_double
