use Rattle.heap_calls.proofs.Recovered.{recovered}
use Rattle.heap_calls.proofs.Numbering.Memories.{memory_as}
use Rattle.heap_calls.proofs.heap.Heap.handle_at.Goals as goal

pub returns : goal.returns
returns g c =
    let a = c.self.inside in
    recovered c.args.place (g.S.BlockStore.zone a.store) (g.S.BlockStore.rest a.store) a.names.items _ a.log
    c.args.self.now.memory c.handle_of.result c.ok_or.result (memory_as c.self.view_is) c.deref.ensures.value
    c.handle_of.ensures c.ok_or.ensures.value
