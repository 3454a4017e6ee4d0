use Rattle.heap_calls.proofs.Cited.{◌≡◌, length, sym, ◌∙◌, ap, arith, Ok, Err, err_from_is_err_and, content_of}
use Rattle.heap_calls.proofs.Numbering.Answering.{refused_for, on_found, found_in, at_place, content_of-rename}
use Rattle.heap_calls.proofs.Numbering.Memories.{memory_as}
use Rattle.heap_calls.proofs.heap.Heap.size_of.Goals as goal

pub returns-in_err-place : goal.returns-in_err-place
returns-in_err-place g c =
    let p = err_from_is_err_and c.from_residual.result c.from_residual.ensures.1 in
    let a = c.self.inside in
    let found = found_in (g.S.BlockStore.zone a.store) (g.S.BlockStore.rest a.store).slots a.names.items _ c.args.handle
    (Err c.in_err-place.field-0.0) c.deref.ensures.value c.in_err-place.ensures in
    rw (p.1, p.2) (refused_for c.in_err-place.field-0.0 (g.S.BlockStore.zone a.store) (g.S.BlockStore.rest a.store)
    a.names.items a.log c.args.handle c.args.self.now.memory (memory_as c.self.view_is) found
    (λ s k. (Ok (length (content_of k.at.here)), s)))

pub overflow_cast-result : goal.overflow_cast-result
overflow_cast-result g c =
    let a = c.self.inside in
    let found = found_in (g.S.BlockStore.zone a.store) (g.S.BlockStore.rest a.store).slots a.names.items _ c.args.handle
    (Ok c.in_ok-place.place) c.deref.ensures.value c.in_ok-place.ensures in
    let bytes = at_place c.in_ok-place.place (g.S.BlockStore.zone a.store) found.1
    (λ s. c.bytes.result.now ≡ content_of s.here) found.3 c.bytes.ensures in
    let n : length c.bytes.result.now ≡ length (content_of found.1.here) = ap length bytes in
    omega (arith, found.5)

pub returns : goal.returns
returns g c =
    let a = c.self.inside in
    let found = found_in (g.S.BlockStore.zone a.store) (g.S.BlockStore.rest a.store).slots a.names.items _ c.args.handle
    (Ok c.in_ok-place.place) c.deref.ensures.value c.in_ok-place.ensures in
    let bytes = at_place c.in_ok-place.place (g.S.BlockStore.zone a.store) found.1
    (λ s. c.bytes.result.now ≡ content_of s.here) found.3 c.bytes.ensures in
    on_found (g.S.BlockStore.zone a.store) (g.S.BlockStore.rest a.store) a.names.items a.log c.args.handle
    c.args.self.now.memory _ (memory_as c.self.view_is) found.2 (λ s k. (Ok (length (content_of k.at.here)), s))
    ∙ ap (λ l. (Ok (length l), c.args.self.now.memory)) (content_of-rename _ _ found.1.here ∙ sym bytes)
