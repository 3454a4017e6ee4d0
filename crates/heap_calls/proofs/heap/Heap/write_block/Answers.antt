use Rattle.heap_calls.proofs.Cited.{◌≡◌, ◌<◌, ◌+◌, ◌++◌, ◌∷◌, length, ◌∙◌, ap, arith, Ok, Err, err_from_is_err_and, content_of}
use Rattle.heap_calls.proofs.Cited.{with_content, written, written_at, look_up}
use Rattle.heap_calls.proofs.Numbering.Answering.{refused_for, found_in, at_place}
use Rattle.heap_calls.proofs.Numbering.Changing.{written-done, written-outside, agrees-same, nonrelocatable-at}
use Rattle.heap_calls.proofs.Room.Staying.{nonrelocatable-spot, alike-content, nonrelocatable-same, nonrelocatable-then}
use Rattle.heap_calls.proofs.Numbering.Reserved.{fits-same}
use Rattle.heap_calls.proofs.Numbering.Memories.{memory_as}
use Rattle.heap_calls.proofs.heap.Heap.write_block.Goals as goal
use Rattle.heap_calls.proofs.heap.Heap.write_block.Goals.{then-bytes-len-via-then-bytes-len}
use Rattle.heap_calls.proofs.heap.Heap.write_block.Goals.{then-bytes-len-via-else-bytes-len+then-from-len}

pub returns-in_err-place-clause-answer : goal.returns-in_err-place-clause-answer
returns-in_err-place-clause-answer g c =
    let p = err_from_is_err_and c.from_residual.result c.from_residual.ensures.1 in
    let a = c.self.inside in
    let found = found_in (g.S.BlockStore.zone a.store) (g.S.BlockStore.rest a.store).slots a.names.items _ c.args.handle
    (Err c.in_err-place.field-0.0) c.deref.ensures.value c.in_err-place.ensures in
    rw (p.1, p.2) (refused_for c.in_err-place.field-0.0 (g.S.BlockStore.zone a.store) (g.S.BlockStore.rest a.store)
    a.names.items a.log c.args.handle c.args.self.now.memory (memory_as c.self.view_is) found
    (λ s k. written_at c.args.from c.args.bytes.now k.at s))

pub returns-then-bytes-len-clause-answer : goal.returns-then-bytes-len-clause-answer
returns-then-bytes-len-clause-answer g c =
    let a = c.self.inside in
    let found = found_in (g.S.BlockStore.zone a.store) (g.S.BlockStore.rest a.store).slots a.names.items _ c.args.handle
    (Ok c.in_ok-place.place) c.deref.ensures.value c.in_ok-place.ensures in
    let bytes = at_place c.in_ok-place.place (g.S.BlockStore.zone a.store) found.1
    (λ s. c.bytes-len.result.now ≡ content_of s.here) found.3 c.bytes-len.ensures in
    let n : length c.bytes-len.result.now ≡ length (content_of found.1.here) = ap length bytes in
    let past : length (content_of found.1.here) < c.args.from + length c.args.bytes.now = elim c.then-bytes-len.branch [
      | then-bytes-len-via-then-bytes-len w ↦ omega arith
      | then-bytes-len-via-else-bytes-len+then-from-len w ↦ omega arith
    ] in
    written-outside c.args.self.now.memory (g.S.BlockStore.zone a.store) (g.S.BlockStore.rest a.store) a.names.items
    a.log
    (look_up c.args.handle) found.0 c.args.from c.args.bytes.now found.1 (memory_as c.self.view_is) found.2 past

pub invariant_of-self : goal.invariant_of-self
invariant_of-self g c =
    let a = c.self.inside in
    let zone = g.S.BlockStore.zone a.store in
    let rest = g.S.BlockStore.rest a.store in
    let zone' = g.S.BlockStore.zone c.write.new.self in
    let found = found_in zone rest.slots a.names.items _ c.args.handle (Ok c.in_ok-place.place) c.deref.ensures.value
    c.in_ok-place.ensures in
    let s = found.1 in
    let content = written c.args.from c.args.bytes.now (content_of s.here) in
    let now = s.below ++ with_content content s.here ∷ s.above in
    let done = at_place c.in_ok-place.place zone s (λ s. zone' ≡ s.below
    ++ with_content (written c.args.from c.args.bytes.now (content_of s.here)) s.here ∷ s.above) found.3
    c.write.ensures.zone in
    agrees-same zone zone' rest (g.S.BlockStore.rest c.write.new.self) a.names.items c.self.invariant
    (nonrelocatable-then zone now zone' (nonrelocatable-at c.in_ok-place.place zone now s found.3
    (nonrelocatable-spot s.below s.above s.here (with_content content s.here) (alike-content content s.here)))
    (nonrelocatable-same now zone' done)) c.write.ensures.rest

pub returns-clause-answer : goal.returns-clause-answer
returns-clause-answer g c =
    let a = c.self.inside in
    let found = found_in (g.S.BlockStore.zone a.store) (g.S.BlockStore.rest a.store).slots a.names.items _ c.args.handle
    (Ok c.in_ok-place.place) c.deref.ensures.value c.in_ok-place.ensures in
    let done = at_place c.in_ok-place.place (g.S.BlockStore.zone a.store) found.1
    (λ s. g.S.BlockStore.zone c.write.new.self ≡ s.below
    ++ with_content (written c.args.from c.args.bytes.now (content_of s.here)) s.here ∷ s.above) found.3
    c.write.ensures.zone in
    let bytes = at_place c.in_ok-place.place (g.S.BlockStore.zone a.store) found.1
    (λ s. c.bytes-len.result.now ≡ content_of s.here) found.3 c.bytes-len.ensures in
    let n : length c.bytes-len.result.now ≡ length (content_of found.1.here) = ap length bytes in
    written-done c.args.self.now.memory (g.S.BlockStore.zone a.store) (g.S.BlockStore.zone c.write.new.self)
    (g.S.BlockStore.rest a.store) (g.S.BlockStore.rest c.write.new.self) a.names.items a.log (look_up c.args.handle)
    found.0 c.args.from c.args.bytes.now found.1 (memory_as c.self.view_is) found.2 c.write.ensures.rest
    (omega arith) done

pub same-self : goal.same-self
same-self g c = fits-same _ _

pub same-self-then-bytes-len : goal.same-self-then-bytes-len
same-self-then-bytes-len g c = elim c.then-bytes-len.branch [
  | then-bytes-len-via-then-bytes-len w ↦ w.self-inside-is ∙ fits-same _ _
  | then-bytes-len-via-else-bytes-len+then-from-len w ↦ w.self-inside-is ∙ fits-same _ _
]
