use Rattle.heap_calls.proofs.Cited.{◌∙◌, ap, is_ok, Memory, look_up}
use Rattle.heap_calls.proofs.Numbering.Answering.{found_in}
use Rattle.heap_calls.proofs.Gates.Barring.{found-held}
use Rattle.heap_calls.proofs.Numbering.Memories.{memory_as}
use Rattle.heap_calls.proofs.heap.Heap.finds_block.Goals as goal

pub returns : goal.returns
returns g c =
    let a = c.self.inside in
    let zone = g.S.BlockStore.zone a.store in
    let slots = (g.S.BlockStore.rest a.store).slots in
    c.is_ok.ensures.value
    ∙ found-held zone slots a.names.items c.args.handle c.find_block.result
    (found_in zone slots a.names.items _ c.args.handle c.find_block.result c.deref.ensures.value c.find_block.ensures)
    ∙ ap (λ (m : Memory). is_ok (look_up c.args.handle m.heap)) (memory_as c.self.view_is)
