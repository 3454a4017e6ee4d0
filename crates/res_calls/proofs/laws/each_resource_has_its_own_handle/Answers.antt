use Rattle.res_calls.proofs.Owning.Laws.{owns-heap, owns-served, owns-launched}
use Rattle.res_calls.proofs.Storing.{gone-owns}
use Rattle.res_calls.proofs.Walks.Own.{own-owns}
use Rattle.res_calls.proofs.laws.each_resource_has_its_own_handle.Goals as goal

pub returns-clause-launched : goal.returns-clause-launched
returns-clause-launched c = owns-launched

pub returns-clause-heap : goal.returns-clause-heap
returns-clause-heap c = owns-heap

pub returns-clause-resources : goal.returns-clause-resources
returns-clause-resources c = owns-served

pub returns-clause-own : goal.returns-clause-own
returns-clause-own c = own-owns

pub returns-clause-stored : goal.returns-clause-stored
returns-clause-stored c = gone-owns
