use Rattle.heap_calls.proofs.Cited.{◌≡◌, true, sym, ◌∙◌, ap, subst, arith, Option, List, Ok, slice_set, slice_get_within, IsSomeAnd, Block}
use Rattle.heap_calls.proofs.Cited.{is_nonrelocatable, Spot, state_of, Agrees, dispose_pointer}
use Rattle.heap_calls.specs.declared.anchor.Anchor.TheVariants.{Disposed}
use Rattle.heap_calls.proofs.Numbering.Changing.{kept, silent-done}
use Rattle.heap_calls.proofs.Numbering.Pointing.{IsHeld, pointer-held, agrees-left, dispose_pointer-done}
use Rattle.heap_calls.proofs.Numbering.Memories.{memory_as}
use Rattle.heap_calls.proofs.heap.Heap.free_block.Given.{Over}
use Rattle.heap_calls.proofs.heap.Heap.free_block.Goals.{In_ok-target}
use Rattle.heap_calls.proofs.heap.Heap.free_block.Goals as goal

-- the pointer's block
target : (g : Over) (c : In_ok-target g) → IsHeld (g.S.BlockStore.zone c.self.inside.store)
    (g.S.BlockStore.rest c.self.inside.store).slots c.self.inside.names.items c.args.pointer c.in_ok-target.target
target g c =
    let a = c.self.inside in
    pointer-held (g.S.BlockStore.zone a.store) (g.S.BlockStore.rest a.store) a.names.items _ c.args.pointer
    c.in_ok-target.target c.self.invariant (g.met.S.BlockStore.placed a.store) (g.met.S.BlockStore.tidied a.store)
    (omega arith) c.deref.ensures.value c.in_ok-target.ensures

pub free_at-requires : goal.free_at-requires
free_at-requires g c =
    let there = target g (goal.at.free_at-requires g c).In_ok-target in
    let P : Option Spot → Type 0 = λ o. IsSomeAnd o (λ s. is_nonrelocatable c.in_ok-target.target.place s.here ≡ true) in
    subst P (sym there.at) there.nonrelocatable

pub index_mut-requires : goal.index_mut-requires
index_mut-requires g c =
    let there = target g (goal.at.index_mut-requires g c).In_ok-target in
    let within = slice_get_within _ c.in_ok-target.target.number _ there.entry in
    omega (arith, within)

pub invariant_of-self : goal.invariant_of-self
invariant_of-self g c =
    let there = target g (goal.at.invariant_of-self g c).In_ok-target in
    let a = c.self.inside in
    let zone = g.S.BlockStore.zone a.store in
    let rest = g.S.BlockStore.rest a.store in
    let rest' = g.S.BlockStore.rest c.free_at.new.self in
    let t = c.in_ok-target.target in
    let P : List Block → Type 0 = λ z. Agrees z rest' (slice_set a.names.items t.number Disposed) in
    subst P (sym c.free_at.ensures.zone) (agrees-left zone rest rest' a.names.items t.number t.place c.self.invariant
    there.entry (omega arith) (kept rest rest' c.free_at.ensures.rest))

pub returns-clause-answer : goal.returns-clause-answer
returns-clause-answer g c =
    let there = target g (goal.at.returns-clause-answer g c).In_ok-target in
    let a = c.self.inside in
    let zone = g.S.BlockStore.zone a.store in
    let rest = g.S.BlockStore.rest a.store in
    let zone' = g.S.BlockStore.zone c.free_at.new.self in
    let rest' = g.S.BlockStore.rest c.free_at.new.self in
    let es = a.names.items in
    let t = c.in_ok-target.target in
    silent-done (dispose_pointer c.args.pointer) c.args.self.now.memory zone zone' rest rest' es
    (slice_set es t.number Disposed) a.log (Ok tt) (memory_as c.self.view_is)
    (dispose_pointer-done zone rest rest' es t.number t.place c.self.invariant there.entry (omega arith)
    (kept rest rest' c.free_at.ensures.rest) c.args.pointer _ there.looked
    ∙ ap (λ (z : List Block). (Ok tt, state_of z rest'.slots (slice_set es t.number Disposed)))
    (sym c.free_at.ensures.zone))
    c.free_at.ensures.rest.window c.free_at.ensures.rest.moves
