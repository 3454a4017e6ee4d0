use Rattle.heap_calls.proofs.Tries.Barring.{served-barred}
use Rattle.heap_calls.proofs.Tries.Gating.{served-refused}
use Rattle.heap_calls.proofs.laws.a_refused_call_leaves_the_heap.Goals as goal

pub returns-clause-refused : goal.returns-clause-refused
returns-clause-refused c = served-refused

pub returns-clause-barred : goal.returns-clause-barred
returns-clause-barred c = served-barred
