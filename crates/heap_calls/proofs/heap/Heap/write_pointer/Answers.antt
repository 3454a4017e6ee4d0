use Rattle.heap_calls.proofs.Cited.{◌≡◌, ◌<◌, ◌+◌, ◌≤◌, ◌++◌, ◌∷◌, length, sym, ap, subst, arith, Option, IsSomeAnd, content_of}
use Rattle.heap_calls.proofs.Cited.{with_content, written, Spot, pointed_at}
use Rattle.heap_calls.proofs.Numbering.Answering.{at_place}
use Rattle.heap_calls.proofs.Numbering.Changing.{written-done, written-outside, agrees-same, nonrelocatable-at}
use Rattle.heap_calls.proofs.Room.Staying.{nonrelocatable-spot, alike-content, nonrelocatable-same, nonrelocatable-then}
use Rattle.heap_calls.proofs.Numbering.Pointing.{IsHeld, pointer-held}
use Rattle.heap_calls.proofs.Numbering.Memories.{memory_as}
use Rattle.heap_calls.proofs.heap.Heap.write_pointer.Given.{Over}
use Rattle.heap_calls.proofs.heap.Heap.write_pointer.Goals.{In_ok-target}
use Rattle.heap_calls.proofs.heap.Heap.write_pointer.Goals as goal
use Rattle.heap_calls.proofs.heap.Heap.write_pointer.Goals.{then-bytes-len-via-then-bytes-len}
use Rattle.heap_calls.proofs.heap.Heap.write_pointer.Goals.{then-bytes-len-via-else-bytes-len+then-from-len}

-- the pointer's block
target : (g : Over) (c : In_ok-target g) → IsHeld (g.S.BlockStore.zone c.self.inside.store)
    (g.S.BlockStore.rest c.self.inside.store).slots c.self.inside.names.items c.args.pointer c.in_ok-target.target
target g c =
    let a = c.self.inside in
    pointer-held (g.S.BlockStore.zone a.store) (g.S.BlockStore.rest a.store) a.names.items _ c.args.pointer
    c.in_ok-target.target c.self.invariant (g.met.S.BlockStore.placed a.store) (g.met.S.BlockStore.tidied a.store)
    (omega arith) c.deref.ensures.value c.in_ok-target.ensures

pub bytes-len-requires : goal.bytes-len-requires
bytes-len-requires g c = (target g (goal.at.bytes-len-requires g c).In_ok-target).there

pub returns-then-bytes-len-clause-answer : goal.returns-then-bytes-len-clause-answer
returns-then-bytes-len-clause-answer g c =
    let there = target g (goal.at.returns-then-bytes-len-clause-answer g c).In_ok-target in
    let a = c.self.inside in
    let bytes = at_place c.in_ok-target.target.place (g.S.BlockStore.zone a.store) there.s
    (λ s. c.bytes-len.result.now ≡ content_of s.here) there.at c.bytes-len.ensures in
    let n : length c.bytes-len.result.now ≡ length (content_of there.s.here) = ap length bytes in
    let past : length (content_of there.s.here) < c.args.from + length c.args.bytes.now = elim c.then-bytes-len.branch [
      | then-bytes-len-via-then-bytes-len w ↦ omega arith
      | then-bytes-len-via-else-bytes-len+then-from-len w ↦ omega arith
    ] in
    written-outside c.args.self.now.memory (g.S.BlockStore.zone a.store) (g.S.BlockStore.rest a.store) a.names.items
    a.log
    (pointed_at c.args.pointer) c.in_ok-target.target.number c.args.from c.args.bytes.now there.s (memory_as
    c.self.view_is)
    there.looked past

pub write-requires : goal.write-requires
write-requires g c =
    let there = target g (goal.at.write-requires g c).In_ok-target in
    let a = c.self.inside in
    let bytes = at_place c.in_ok-target.target.place (g.S.BlockStore.zone a.store) there.s
    (λ s. c.bytes-len.result.now ≡ content_of s.here) there.at c.bytes-len.ensures in
    let n : length c.bytes-len.result.now ≡ length (content_of there.s.here) = ap length bytes in
    let P : Option Spot → Type 0 = λ o. IsSomeAnd o (λ s. c.args.from + length c.args.bytes.now ≤ length
    (content_of s.here)) in
    subst P (sym there.at) (omega arith)

pub invariant_of-self : goal.invariant_of-self
invariant_of-self g c =
    let there = target g (goal.at.invariant_of-self g c).In_ok-target in
    let a = c.self.inside in
    let zone = g.S.BlockStore.zone a.store in
    let zone' = g.S.BlockStore.zone c.write.new.self in
    let s = there.s in
    let content = written c.args.from c.args.bytes.now (content_of s.here) in
    let now = s.below ++ with_content content s.here ∷ s.above in
    let done = at_place c.in_ok-target.target.place zone s
    (λ s. zone' ≡ s.below ++ with_content (written c.args.from c.args.bytes.now (content_of s.here)) s.here
    ∷ s.above) there.at c.write.ensures.zone in
    agrees-same zone zone' (g.S.BlockStore.rest a.store) (g.S.BlockStore.rest c.write.new.self) a.names.items
    c.self.invariant (nonrelocatable-then zone now zone' (nonrelocatable-at c.in_ok-target.target.place zone now s there.at
    (nonrelocatable-spot s.below s.above s.here (with_content content s.here) (alike-content content s.here)))
    (nonrelocatable-same now zone' done)) c.write.ensures.rest

pub returns-clause-answer : goal.returns-clause-answer
returns-clause-answer g c =
    let there = target g (goal.at.returns-clause-answer g c).In_ok-target in
    let a = c.self.inside in
    let zone = g.S.BlockStore.zone a.store in
    let zone' = g.S.BlockStore.zone c.write.new.self in
    let done = at_place c.in_ok-target.target.place zone there.s
    (λ s. zone' ≡ s.below ++ with_content (written c.args.from c.args.bytes.now (content_of s.here)) s.here
    ∷ s.above) there.at c.write.ensures.zone in
    let bytes = at_place c.in_ok-target.target.place zone there.s (λ s. c.bytes-len.result.now ≡ content_of s.here)
    there.at c.bytes-len.ensures in
    let n : length c.bytes-len.result.now ≡ length (content_of there.s.here) = ap length bytes in
    written-done c.args.self.now.memory zone zone' (g.S.BlockStore.rest a.store) (g.S.BlockStore.rest c.write.new.self)
    a.names.items a.log (pointed_at c.args.pointer) c.in_ok-target.target.number c.args.from c.args.bytes.now
    there.s (memory_as c.self.view_is) there.looked c.write.ensures.rest
    (omega arith) done
