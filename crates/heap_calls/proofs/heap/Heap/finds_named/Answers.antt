use Rattle.heap_calls.proofs.Cited.{◌∙◌, ap, is_ok, Memory, block_named, state_of}
use Rattle.heap_calls.proofs.Numbering.Pointing.{found_by}
use Rattle.heap_calls.proofs.Gates.Barring.{found-named}
use Rattle.heap_calls.proofs.Numbering.Memories.{memory_as}
use Rattle.heap_calls.proofs.heap.Heap.finds_named.Goals as goal

pub returns : goal.returns
returns g c =
    let a = c.self.inside in
    let zone = g.S.BlockStore.zone a.store in
    let slots = (g.S.BlockStore.rest a.store).slots in
    c.is_ok.ensures.value
    ∙ found-named (block_named c.args.name (state_of zone slots a.names.items)) zone a.names.items c.find_named.result
    (found_by (block_named c.args.name) zone slots a.names.items _ c.find_named.result c.deref.ensures.value
    c.find_named.ensures)
    ∙ ap (λ (m : Memory). is_ok (block_named c.args.name m.heap)) (memory_as c.self.view_is)
