use Rattle.heap_calls.proofs.Cited.{arith, List, ℕ}
use Rattle.heap_calls.proofs.Numbering.Pointing.{IsHeld, pointer-held, bytes-told}
use Rattle.heap_calls.proofs.Numbering.Memories.{memory_as}
use Rattle.heap_calls.proofs.heap.Heap.pointer_bytes.Given.{Over}
use Rattle.heap_calls.proofs.heap.Heap.pointer_bytes.Goals.{In_ok-target}
use Rattle.heap_calls.proofs.heap.Heap.pointer_bytes.Goals as goal

-- the pointer's block
target : (g : Over) (c : In_ok-target g) → IsHeld (g.S.BlockStore.zone c.self.inside.store)
    (g.S.BlockStore.rest c.self.inside.store).slots c.self.inside.names.items c.args.pointer c.in_ok-target.target
target g c =
    let a = c.self.inside in
    pointer-held (g.S.BlockStore.zone a.store) (g.S.BlockStore.rest a.store) a.names.items _ c.args.pointer
    c.in_ok-target.target c.self.invariant (g.met.S.BlockStore.placed a.store) (g.met.S.BlockStore.tidied a.store)
    (omega arith) c.deref.ensures.value c.in_ok-target.ensures

pub returns : goal.returns
returns g c =
    let a = c.self.inside in
    bytes-told (λ (x : List ℕ). x) (g.S.BlockStore.zone a.store) (g.S.BlockStore.rest a.store) a.names.items a.log
    c.args.self.now.memory c.args.pointer c.in_ok-target.target c.bytes.result.now (memory_as c.self.view_is)
    (target g (goal.at.returns g c).In_ok-target) c.bytes.ensures

pub bytes-requires : goal.bytes-requires
bytes-requires g c = (target g (goal.at.bytes-requires g c).In_ok-target).there
