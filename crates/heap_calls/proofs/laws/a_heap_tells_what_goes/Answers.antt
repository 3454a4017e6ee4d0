use Rattle.heap_calls.proofs.Cited.{arith}
use Rattle.heap_calls.proofs.ToldGone.Heaps.{heap-once, heap-small}
use Rattle.heap_calls.proofs.ToldGone.Laws.{tells-what-goes, step-tells-what-goes}
use Rattle.heap_calls.proofs.Numbering.Memories.{memory_as}
use Rattle.heap_calls.proofs.laws.a_heap_tells_what_goes.Goals as goal

pub returns-clause-once : goal.returns-clause-once
returns-clause-once g c =
    let a = c.heap.inside in
    heap-once c.args.heap.now.memory (g.S.BlockStore.zone a.store) (g.S.BlockStore.rest a.store) a.names.items a.log
    (memory_as c.heap.view_is) c.heap.invariant (omega arith) (g.met.S.BlockStore.once a.store)

pub returns-clause-small : goal.returns-clause-small
returns-clause-small g c =
    let a = c.heap.inside in
    heap-small c.args.heap.now.memory (g.S.BlockStore.zone a.store) (g.S.BlockStore.rest a.store) a.names.items a.log
    (memory_as c.heap.view_is) (g.met.S.BlockStore.small a.store)

pub returns-clause-goes : goal.returns-clause-goes
returns-clause-goes g c asked =
    let a = c.heap.inside in
    let zone = g.S.BlockStore.zone a.store in
    let rest = g.S.BlockStore.rest a.store in
    tells-what-goes asked c.args.heap.now.memory
    (heap-once c.args.heap.now.memory zone rest a.names.items a.log (memory_as c.heap.view_is) c.heap.invariant (omega
    arith)
    (g.met.S.BlockStore.once a.store))
    (heap-small c.args.heap.now.memory zone rest a.names.items a.log (memory_as c.heap.view_is)
    (g.met.S.BlockStore.small a.store))

pub returns-clause-steps : goal.returns-clause-steps
returns-clause-steps g c step =
    let a = c.heap.inside in
    let zone = g.S.BlockStore.zone a.store in
    let rest = g.S.BlockStore.rest a.store in
    step-tells-what-goes step c.args.heap.now.memory
    (heap-once c.args.heap.now.memory zone rest a.names.items a.log (memory_as c.heap.view_is) c.heap.invariant (omega
    arith)
    (g.met.S.BlockStore.once a.store))
    (heap-small c.args.heap.now.memory zone rest a.names.items a.log (memory_as c.heap.view_is)
    (g.met.S.BlockStore.small a.store))
