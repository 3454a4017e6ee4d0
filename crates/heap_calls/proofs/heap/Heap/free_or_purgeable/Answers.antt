use Rattle.heap_calls.proofs.Cited.{◌∙◌, sym, ap, free_sum, Memory, purged_all, handle_number, pointer_number}
use Rattle.heap_calls.proofs.Numbering.Changing.{free_sum-rename}
use Rattle.heap_calls.proofs.Numbering.PurgeTrials.{purged_all-rename}
use Rattle.heap_calls.proofs.Numbering.Memories.{memory_as}
use Rattle.heap_calls.proofs.heap.Heap.free_or_purgeable.Goals as goal

pub returns : goal.returns
returns g c =
    let a = c.self.inside in
    let zone = g.S.BlockStore.zone a.store in
    let f = handle_number a.names.items in
    let k = pointer_number a.names.items in
    c.free_if_purged.ensures
    ∙ sym (free_sum-rename f k (purged_all zone))
    ∙ ap free_sum (sym (purged_all-rename f k zone))
    ∙ ap (λ (m : Memory). free_sum (purged_all m.heap.zone)) (memory_as c.self.view_is)
