use Rattle.heap_calls.proofs.Tries.Keeping.{served_bytes, served_masters_no_fewer}
use Rattle.heap_calls.proofs.laws.a_call_keeps_the_zones_bytes.Goals as goal

pub returns-clause-bytes : goal.returns-clause-bytes
returns-clause-bytes c = served_bytes

pub returns-clause-masters : goal.returns-clause-masters
returns-clause-masters c = served_masters_no_fewer
