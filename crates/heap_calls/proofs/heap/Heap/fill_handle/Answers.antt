use Rattle.heap_calls.proofs.Cited.{◌≡◌, inl, inr, refl, ◌∙◌, arith, length-map, err_from_is_err_and, Plain, Hears, purges_made, new_filled}
use Rattle.heap_calls.proofs.Cited.{new_inside, KeepsNames, entered, name_of, memory_of, Agrees}
use Rattle.heap_calls.proofs.Hearing.{stops-at-once, stops-on-the-way}
use Rattle.heap_calls.proofs.Filled.Unmade.{made-told, heap-unmade}
use Rattle.heap_calls.proofs.Made.{made-agrees, filled-answer}
use Rattle.heap_calls.proofs.NewBlocks.NewHandles.{agrees-more, kept-memory}
use Rattle.heap_calls.proofs.Numbering.Memories.{memory_as, reply-as}
use Rattle.heap_calls.proofs.heap.Heap.fill_handle.Given.{Over}
use Rattle.heap_calls.proofs.heap.Heap.fill_handle.Goals.{After-name_handle}
use Rattle.heap_calls.proofs.heap.Heap.fill_handle.Goals as goal

pub returns-in_err-reserve-clause-stops : goal.returns-in_err-reserve-clause-stops
returns-in_err-reserve-clause-stops g c host =
    stops-at-once g.S.BlockStore.TAKES_HOST g.K.PurgeSink.told g.K.PurgeSink.listens KeepsNames _ _ c.args.self.now _ c.args.sink.now
    (λ m. refl) (rw c.reserve.ensures.items c.self.view_is)
    (rw (← c.self.view_is) (let full = c.in_err-reserve.ensures.full in let fits = c.self.inside.fits in
    omega (arith, length-map c.self.inside.names.items (name_of (g.S.BlockStore.rest c.self.inside.store).slots))))

pub invariant_of-self-in_err-made : goal.invariant_of-self-in_err-made
invariant_of-self-in_err-made g c = rw c.in_ok-reserve.ensures.items
    (agrees-more _ _ _ _ c.self.invariant c.fill_block.ensures.nonrelocatable c.in_err-made.ensures.kept)

-- the entries and the store agree where the host has memory
agrees : (g : Over) (c : After-name_handle g) → Agrees (g.S.BlockStore.zone c.fill_block.new.store)
    (g.S.BlockStore.rest c.fill_block.new.store) (entered c.in_ok-made.made.slot c.self.inside.names.items)
agrees g c =
    let store = c.self.inside.store in
    made-agrees (g.S.BlockStore.zone store) (g.S.BlockStore.rest store) _ (g.met.S.BlockStore.masters store)
    c.self.invariant (g.met.S.BlockStore.no_block store) (g.S.BlockStore.rest c.fill_block.new.store) _
    c.fill_block.ensures.nonrelocatable c.in_ok-made.made.slot c.in_ok-made.ensures.slot

pub invariant_of-self-2 : goal.invariant_of-self-2
invariant_of-self-2 g c = rw (c.name_handle.ensures.entered, c.in_ok-reserve.ensures.items)
    (agrees g (goal.at.invariant_of-self-2 g c).After-name_handle)

pub invariant_of-self-in_err-name_handle : goal.invariant_of-self-in_err-name_handle
invariant_of-self-in_err-name_handle g c = rw (c.name_handle.ensures.entered, c.in_ok-reserve.ensures.items)
    (agrees g (goal.at.invariant_of-self-in_err-name_handle g c).After-name_handle)

-- what the call answers where the host has memory
told : (g : Over) (c : After-name_handle g) → new_inside Plain c.args.flags c.args.bytes.now c.args.self.now.memory
    ≡ (
      c.name_handle.result,
      memory_of (g.S.BlockStore.zone c.fill_block.new.store)
          (g.S.BlockStore.rest c.fill_block.new.store) c.name_handle.new.names.items c.count.new.self,
    )
told g c =
    let a = c.self.inside in
    rw (c.name_handle.ensures.number, c.name_handle.ensures.entered, c.in_ok-reserve.ensures.items, c.count.ensures)
    (filled-answer (g.S.BlockStore.zone a.store) (g.S.BlockStore.rest a.store) a.names.items
    (g.met.S.BlockStore.masters a.store) c.self.invariant (g.met.S.BlockStore.no_block a.store) a.log
    c.args.self.now.memory (memory_as c.self.view_is) (g.S.BlockStore.zone c.fill_block.new.store)
    (g.S.BlockStore.rest c.fill_block.new.store) c.in_ok-made.made.slot c.in_ok-made.made.searches c.args.flags
    c.args.bytes.now c.in_ok-made.ensures.slot c.in_ok-made.ensures.went)

pub returns-in_err-name_handle-clause-answer : goal.returns-in_err-name_handle-clause-answer
returns-in_err-name_handle-clause-answer g c =
    let p = err_from_is_err_and c.from_residual-in_err-name_handle.result c.from_residual-in_err-name_handle.ensures.1 in
    rw (p.1, p.2) (reply-as (told g (goal.at.returns-in_err-name_handle-clause-answer g c).After-name_handle)
    c.in_err-name_handle.was)

pub returns-clause-answer : goal.returns-clause-answer
returns-clause-answer g c =
    reply-as (told g (goal.at.returns-clause-answer g c).After-name_handle) c.in_ok-name_handle.was

pub returns-in_err-made-clause-stops : goal.returns-in_err-made-clause-stops
returns-in_err-made-clause-stops g c host =
    let a = c.self.inside in
    stops-on-the-way g.S.BlockStore.TAKES_HOST g.K.PurgeSink.told g.K.PurgeSink.listens KeepsNames _ _ c.args.self.now _ c.args.sink.now _
    (kept-memory c.args.self.now.memory _ _ (g.S.BlockStore.rest a.store) (g.S.BlockStore.rest c.fill_block.new.store)
    a.names.items _ a.log (memory_as c.self.view_is) c.in_ok-reserve.ensures.items c.self.invariant
    c.in_err-made.ensures.kept)
    (elim c.in_err-made.ensures.left [
      | inl takes ↦ inl takes
      | inr left ↦ inr (heap-unmade g.K.PurgeSink.told c.args.self.now (g.S.BlockStore.zone a.store)
          (g.S.BlockStore.rest a.store) a.names.items c.deref.result.now a.log (g.met.S.BlockStore.masters a.store)
          c.self.view_is c.self.invariant (c.deref.ensures.value ∙ c.in_ok-reserve.ensures.items) c.args.sink.now
          c.fill_block.new.sink (g.S.BlockStore.zone c.fill_block.new.store) (g.S.BlockStore.rest c.fill_block.new.store)
          c.reserve.new.self.items c.in_ok-reserve.ensures.items left)
    ])
    (c.in_err-made.ensures.host refl)

-- what the sink hears
heard : (g : Over) (c : After-name_handle g) → (done : Type 0)
    → Hears g.K.PurgeSink.told g.K.PurgeSink.waits g.K.PurgeSink.listens done
    (purges_made (new_filled Plain c.args.flags c.args.bytes.now) c.args.self.now.memory.heap) c.args.sink.now c.fill_block.new.sink
heard g c done =
    let a = c.self.inside in
    record {
      tells = λ some listens. made-told g.K.PurgeSink.told c.args.self.now.memory (g.S.BlockStore.zone a.store)
          (g.S.BlockStore.rest a.store) a.names.items c.deref.result.now a.log (g.met.S.BlockStore.masters a.store)
          (memory_as c.self.view_is) c.self.invariant (c.deref.ensures.value ∙ c.in_ok-reserve.ensures.items) c.args.sink.now
          c.fill_block.new.sink Plain c.args.flags c.args.bytes.now (c.in_ok-made.ensures.hears.tells refl listens);
      rests = c.in_ok-made.ensures.hears.rests;
    }

pub returns-in_err-name_handle-clause-hears : goal.returns-in_err-name_handle-clause-hears
returns-in_err-name_handle-clause-hears g c = heard g (goal.at.returns-in_err-name_handle-clause-hears g c).After-name_handle _

pub returns-clause-hears : goal.returns-clause-hears
returns-clause-hears g c = heard g (goal.at.returns-clause-hears g c).After-name_handle _
