use Rattle.heap_calls.proofs.Tries.Counting.{counts_searches, counts_moves}
use Rattle.heap_calls.proofs.laws.a_call_is_counted.Goals as goal

pub returns-clause-searches : goal.returns-clause-searches
returns-clause-searches c = counts_searches

pub returns-clause-moves : goal.returns-clause-moves
returns-clause-moves c = counts_moves
