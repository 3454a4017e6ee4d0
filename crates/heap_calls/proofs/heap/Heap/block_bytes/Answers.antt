use Rattle.heap_calls.proofs.Cited.{◌≡◌, sym, ◌∙◌, ap, arith, length, Ok, Err, err_from_is_err_and, content_of}
use Rattle.heap_calls.proofs.Numbering.Answering.{refused_for, on_found, found_in, at_place, content_of-rename}
use Rattle.heap_calls.proofs.Numbering.Memories.{memory_as}
use Rattle.heap_calls.proofs.heap.Heap.block_bytes.Goals as goal

pub returns-in_err-place-clause-shown : goal.returns-in_err-place-clause-shown
returns-in_err-place-clause-shown g c =
    let p = err_from_is_err_and c.from_residual.result c.from_residual.ensures.1 in
    let a = c.self.inside in
    let found = found_in (g.S.BlockStore.zone a.store) (g.S.BlockStore.rest a.store).slots a.names.items _ c.args.handle
    (Err c.in_err-place.field-0.0) c.deref.ensures.value c.in_err-place.ensures in
    rw (p.1, p.2) (refused_for c.in_err-place.field-0.0 (g.S.BlockStore.zone a.store) (g.S.BlockStore.rest a.store)
    a.names.items a.log c.args.handle c.args.self.now.memory (memory_as c.self.view_is) found (λ s k. (
      Ok (content_of
          k.at.here),
      s,
    )))

pub returns-clause-shown : goal.returns-clause-shown
returns-clause-shown g c =
    let a = c.self.inside in
    let found = found_in (g.S.BlockStore.zone a.store) (g.S.BlockStore.rest a.store).slots a.names.items _ c.args.handle
    (Ok c.in_ok-place.place) c.deref.ensures.value c.in_ok-place.ensures in
    let bytes = at_place c.in_ok-place.place (g.S.BlockStore.zone a.store) found.1
    (λ s. c.bytes.result.now ≡ content_of s.here) found.3 c.bytes.ensures in
    on_found (g.S.BlockStore.zone a.store) (g.S.BlockStore.rest a.store) a.names.items a.log c.args.handle
    c.args.self.now.memory _ (memory_as c.self.view_is) found.2 (λ s k. (Ok (content_of k.at.here), s))
    ∙ ap (λ l. (Ok l, c.args.self.now.memory)) (content_of-rename _ _ found.1.here ∙ sym bytes)

pub returns-clause-small : goal.returns-clause-small
returns-clause-small g c =
    let a = c.self.inside in
    let found = found_in (g.S.BlockStore.zone a.store) (g.S.BlockStore.rest a.store).slots a.names.items _ c.args.handle
    (Ok c.in_ok-place.place) c.deref.ensures.value c.in_ok-place.ensures in
    let bytes = at_place c.in_ok-place.place (g.S.BlockStore.zone a.store) found.1
    (λ s. c.bytes.result.now ≡ content_of s.here) found.3 c.bytes.ensures in
    omega (arith, ap length bytes, found.5)
