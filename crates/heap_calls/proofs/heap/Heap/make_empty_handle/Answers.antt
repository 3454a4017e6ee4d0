use Rattle.heap_calls.proofs.Cited.{◌≡◌, List, refl, ◌∙◌, ap, arith, length-map, err_from_is_err_and, Nothing, Anchor, new_empty_handle}
use Rattle.heap_calls.proofs.Cited.{doing_silently, purges_made, Hears, KeepsMoves, entered, name_of, memory_of, Agrees, zone_slot_gone}
use Rattle.heap_calls.proofs.Hearing.{hears-as, stops-at-once, stops-halted}
use Rattle.heap_calls.proofs.Made.{made-agrees, empty-answer, empty-gone}
use Rattle.heap_calls.proofs.NewBlocks.NewHandles.{agrees-more, kept-still}
use Rattle.heap_calls.proofs.NewBlocks.NewSlots.{taken-slot}
use Rattle.heap_calls.proofs.Numbering.Changing.{heap-same}
use Rattle.heap_calls.proofs.Numbering.Memories.{memory_as, reply-as}
use Rattle.heap_calls.proofs.heap.Heap.make_empty_handle.Given.{Over}
use Rattle.heap_calls.proofs.heap.Heap.make_empty_handle.Goals.{After-name_handle}
use Rattle.heap_calls.proofs.heap.Heap.make_empty_handle.Goals as goal

-- the entries and the store agree where the host has memory
agrees : (g : Over) (c : After-name_handle g) → Agrees (g.S.BlockStore.zone c.make_slot.new.store)
    (g.S.BlockStore.rest c.make_slot.new.store) (entered c.in_ok-taken.taken.slot c.self.inside.names.items)
agrees g c =
    let store = c.self.inside.store in
    made-agrees (g.S.BlockStore.zone store) (g.S.BlockStore.rest store) _ (g.met.S.BlockStore.masters store)
    c.self.invariant (g.met.S.BlockStore.no_block store) (g.S.BlockStore.rest c.make_slot.new.store) _
    c.make_slot.ensures.nonrelocatable c.in_ok-taken.taken.slot
    (taken-slot _ _ _ _ c.in_ok-taken.ensures.slot)

pub returns-in_err-reserve-clause-stops : goal.returns-in_err-reserve-clause-stops
returns-in_err-reserve-clause-stops g c host =
    stops-at-once g.S.BlockStore.TAKES_HOST g.K.PurgeSink.told g.K.PurgeSink.listens KeepsMoves _ _ c.args.self.now _ c.args.sink.now
    (λ m. refl) (rw c.reserve.ensures.items c.self.view_is)
    (rw (← c.self.view_is) (let full = c.in_err-reserve.ensures.full in let fits = c.self.inside.fits in
    omega (arith, length-map c.self.inside.names.items (name_of (g.S.BlockStore.rest c.self.inside.store).slots))))

-- what the call answers where the host has memory
told : (g : Over) (c : After-name_handle g) → doing_silently new_empty_handle c.args.self.now.memory
    ≡ (
      c.name_handle.result,
      memory_of (g.S.BlockStore.zone c.make_slot.new.store)
          (g.S.BlockStore.rest c.make_slot.new.store) c.name_handle.new.names.items c.count.new.self,
    )
told g c =
    let a = c.self.inside in
    rw (c.name_handle.ensures.number, c.name_handle.ensures.entered, c.in_ok-reserve.ensures.items, c.count.ensures)
    (empty-answer (g.S.BlockStore.zone a.store) (g.S.BlockStore.rest a.store) a.names.items
    (g.met.S.BlockStore.masters a.store) c.self.invariant (g.met.S.BlockStore.no_block a.store) a.log
    c.args.self.now.memory (memory_as c.self.view_is) (g.S.BlockStore.zone c.make_slot.new.store)
    (g.S.BlockStore.rest c.make_slot.new.store) c.in_ok-taken.taken.slot c.in_ok-taken.taken.searches
    c.in_ok-taken.ensures.slot c.in_ok-taken.ensures.went)

pub returns-in_err-name_handle-clause-answer : goal.returns-in_err-name_handle-clause-answer
returns-in_err-name_handle-clause-answer g c =
    let p = err_from_is_err_and c.from_residual-in_err-name_handle.result c.from_residual-in_err-name_handle.ensures.1 in
    rw (p.1, p.2) (reply-as (told g (goal.at.returns-in_err-name_handle-clause-answer g c).After-name_handle)
    c.in_err-name_handle.was)

pub returns-clause-answer : goal.returns-clause-answer
returns-clause-answer g c =
    reply-as (told g (goal.at.returns-clause-answer g c).After-name_handle) c.in_ok-name_handle.was

pub invariant_of-self-2 : goal.invariant_of-self-2
invariant_of-self-2 g c = rw (c.name_handle.ensures.entered, c.in_ok-reserve.ensures.items)
    (agrees g (goal.at.invariant_of-self-2 g c).After-name_handle)

pub invariant_of-self-in_err-taken : goal.invariant_of-self-in_err-taken
invariant_of-self-in_err-taken g c = rw c.in_ok-reserve.ensures.items
    (agrees-more _ _ _ _ c.self.invariant c.make_slot.ensures.nonrelocatable c.in_err-taken.ensures.kept)

-- what the sink hears
heard : (g : Over) (c : After-name_handle g) → (done : Type 0)
    → Hears g.K.PurgeSink.told g.K.PurgeSink.waits g.K.PurgeSink.listens done
    (purges_made new_empty_handle c.args.self.now.memory.heap) c.args.sink.now c.make_slot.new.sink
heard g c done =
    let a = c.self.inside in
    let zone = g.S.BlockStore.zone a.store in
    let rest = g.S.BlockStore.rest a.store in
    let same = ap (λ (e : List Anchor). zone_slot_gone e Nothing rest.unused zone)
    (c.deref.ensures.value ∙ c.in_ok-reserve.ensures.items)
    ∙ empty-gone zone rest a.names.items (g.met.S.BlockStore.masters a.store) c.self.invariant
    (g.met.S.BlockStore.no_block a.store) a.log c.args.self.now.memory (memory_as c.self.view_is) in
    hears-as g.K.PurgeSink.told g.K.PurgeSink.waits g.K.PurgeSink.listens _ _ _ _ _ _ (λ some. refl) same
    c.in_ok-taken.ensures.hears

pub returns-in_err-name_handle-clause-hears : goal.returns-in_err-name_handle-clause-hears
returns-in_err-name_handle-clause-hears g c = heard g (goal.at.returns-in_err-name_handle-clause-hears g c).After-name_handle _

pub returns-clause-hears : goal.returns-clause-hears
returns-clause-hears g c = heard g (goal.at.returns-clause-hears g c).After-name_handle _

pub returns-in_err-taken-clause-stops : goal.returns-in_err-taken-clause-stops
returns-in_err-taken-clause-stops g c host =
    let a = c.self.inside in
    stops-halted g.S.BlockStore.TAKES_HOST g.K.PurgeSink.told g.K.PurgeSink.listens KeepsMoves _ _ c.args.self.now _
    c.args.sink.now _ (kept-still c.args.self.now.memory _ _ (g.S.BlockStore.rest a.store) (g.S.BlockStore.rest c.make_slot.new.store)
    a.names.items _ a.log (memory_as c.self.view_is) c.in_ok-reserve.ensures.items c.self.invariant
    c.in_err-taken.ensures.kept c.make_slot.ensures.moves)
    (heap-same (g.S.BlockStore.zone a.store) (g.S.BlockStore.zone c.make_slot.new.store) (g.S.BlockStore.rest a.store)
    (g.S.BlockStore.rest c.make_slot.new.store) a.names.items _ a.log c.self.view_is c.in_ok-reserve.ensures.items)
    c.in_err-taken.ensures.halts
