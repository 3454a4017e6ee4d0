use Rattle.res_calls.proofs.Cited.{managers}
use Rattle.res_calls.proofs.ToldGone.Calls.{fetched-goes, fetched-purgeable, fetched-once}
use Rattle.res_calls.proofs.laws.a_fetch_on_a_heap_reports_what_goes.Goals as goal

pub returns-clause-goes : goal.returns-clause-goes
returns-clause-goes g c asked r is = fetched-goes asked (managers r c.args.heap.now.memory) is
    c.a_heap_tells_what_goes.ensures.once c.a_heap_tells_what_goes.ensures.small

pub returns-clause-purgeable : goal.returns-clause-purgeable
returns-clause-purgeable g c asked r is = fetched-purgeable asked (managers r c.args.heap.now.memory) is
    c.a_heap_tells_what_goes.ensures.once c.a_heap_tells_what_goes.ensures.small

pub returns-clause-once : goal.returns-clause-once
returns-clause-once g c asked r is = fetched-once asked (managers r c.args.heap.now.memory) is
    c.a_heap_tells_what_goes.ensures.once c.a_heap_tells_what_goes.ensures.small
