use Rattle.heap_calls.proofs.Cited.{◌∙◌, sym, ap, sizes, Memory, handle_number, pointer_number}
use Rattle.heap_calls.proofs.Numbering.Answering.{sizes-rename}
use Rattle.heap_calls.proofs.Numbering.Memories.{memory_as}
use Rattle.heap_calls.proofs.heap.Heap.len.Goals as goal

pub returns : goal.returns
returns g c =
    let a = c.self.inside in
    c.len.ensures ∙ sym (sizes-rename (handle_number a.names.items) (pointer_number a.names.items)
    (g.S.BlockStore.zone a.store))
    ∙ ap (λ (m : Memory). sizes m.heap.zone) (memory_as c.self.view_is)
