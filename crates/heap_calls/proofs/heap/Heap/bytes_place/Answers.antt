use Rattle.heap_calls.proofs.Cited.{◌+◌, ◌∙◌, ap, Ok, Err, err_from_is_err_and, block_named, sizes}
use Rattle.heap_calls.proofs.Numbering.Answering.{sizes-rename}
use Rattle.heap_calls.proofs.Numbering.Pointing.{found_by}
use Rattle.heap_calls.proofs.Numbering.Answering.{refused_by, on_held}
use Rattle.heap_calls.proofs.Numbering.Memories.{memory_as}
use Rattle.heap_calls.proofs.heap.Heap.bytes_place.Goals as goal

pub returns-in_err-place : goal.returns-in_err-place
returns-in_err-place g c =
    let p = err_from_is_err_and c.from_residual.result c.from_residual.ensures.1 in
    let a = c.self.inside in
    let found = found_by (block_named c.args.name) (g.S.BlockStore.zone a.store) (g.S.BlockStore.rest a.store).slots
    a.names.items _ (Err c.in_err-place.field-0.0) c.deref.ensures.value c.in_err-place.ensures in
    rw (p.1, p.2) (refused_by (block_named c.args.name) c.in_err-place.field-0.0 (g.S.BlockStore.zone a.store)
    (g.S.BlockStore.rest a.store) a.names.items a.log c.args.self.now.memory (memory_as c.self.view_is) found
    (λ s k. (Ok (sizes k.at.below + 16), s)))

pub returns : goal.returns
returns g c =
    let a = c.self.inside in
    let found = found_by (block_named c.args.name) (g.S.BlockStore.zone a.store) (g.S.BlockStore.rest a.store).slots
    a.names.items _ (Ok c.in_ok-place.place) c.deref.ensures.value c.in_ok-place.ensures in
    on_held (block_named c.args.name) (g.S.BlockStore.zone a.store) (g.S.BlockStore.rest a.store) a.names.items a.log
    c.args.self.now.memory _ (memory_as c.self.view_is) found.2 (λ s k. (Ok (sizes k.at.below + 16), s))
    ∙ ap (λ n. (Ok (n + 16), c.args.self.now.memory)) (sizes-rename _ _ found.1.below ∙ found.4)
