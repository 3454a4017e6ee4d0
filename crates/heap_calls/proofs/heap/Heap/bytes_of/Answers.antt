use Rattle.heap_calls.proofs.Cited.{◌≡◌, length, ap, arith, content_of}
use Rattle.heap_calls.proofs.Numbering.Answering.{at_place}
use Rattle.heap_calls.proofs.Numbering.Pointing.{IsHeld, pointer-held, bytes-told}
use Rattle.heap_calls.proofs.Numbering.Memories.{memory_as}
use Rattle.heap_calls.proofs.heap.Heap.bytes_of.Given.{Over}
use Rattle.heap_calls.proofs.heap.Heap.bytes_of.Goals.{In_ok-target}
use Rattle.heap_calls.proofs.heap.Heap.bytes_of.Goals as goal

-- the pointer's block
target : (g : Over) (c : In_ok-target g) → IsHeld (g.S.BlockStore.zone c.self.inside.store)
    (g.S.BlockStore.rest c.self.inside.store).slots c.self.inside.names.items c.args.pointer c.in_ok-target.target
target g c =
    let a = c.self.inside in
    pointer-held (g.S.BlockStore.zone a.store) (g.S.BlockStore.rest a.store) a.names.items _ c.args.pointer
    c.in_ok-target.target c.self.invariant (g.met.S.BlockStore.placed a.store) (g.met.S.BlockStore.tidied a.store)
    (omega arith) c.deref.ensures.value c.in_ok-target.ensures

pub bytes-requires : goal.bytes-requires
bytes-requires g c = (target g (goal.at.bytes-requires g c).In_ok-target).there

pub overflow_cast-result : goal.overflow_cast-result
overflow_cast-result g c =
    let there = target g (goal.at.overflow_cast-result g c).In_ok-target in
    let store = c.self.inside.store in
    let bytes = at_place c.in_ok-target.target.place (g.S.BlockStore.zone store) there.s
    (λ s. c.bytes.result.now ≡ content_of s.here) there.at c.bytes.ensures in
    let n : length c.bytes.result.now ≡ length (content_of there.s.here) = ap length bytes in
    omega (arith, there.few, g.met.S.BlockStore.small store)

pub returns : goal.returns
returns g c =
    let a = c.self.inside in
    bytes-told length (g.S.BlockStore.zone a.store) (g.S.BlockStore.rest a.store) a.names.items a.log
    c.args.self.now.memory
    c.args.pointer c.in_ok-target.target c.bytes.result.now (memory_as c.self.view_is)
    (target g (goal.at.returns g c).In_ok-target) c.bytes.ensures
