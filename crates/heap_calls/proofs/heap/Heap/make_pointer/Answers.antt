use Rattle.heap_calls.proofs.Cited.{◌≡◌, ◌++◌, ◌∷◌, [], length, List, refl, ◌∙◌, ap, arith, rules, is_some, length-map, counted, Anchor}
use Rattle.heap_calls.proofs.Cited.{new_pointer, doing_silently, purges_made, reply_of, KeepsMoves, name_of, memory_of, nothing}
use Rattle.heap_calls.proofs.Cited.{seek_pointer, told_along}
use Rattle.heap_calls.specs.declared.anchor.Anchor.TheVariants.{Pointer}
use Rattle.heap_calls.proofs.Hearing.{hears-as, stops-at-once, stops-halted}
use Rattle.heap_calls.proofs.NewBlocks.NewPointers.{agrees-more, pointed, pointer-answer, pointer-gone}
use Rattle.heap_calls.proofs.Numbering.Changing.{agrees-placed, slots_kept, heap-same}
use Rattle.heap_calls.proofs.Numbering.Memories.{memory_as}
use Rattle.heap_calls.proofs.heap.Heap.make_pointer.Given.{Over}
use Rattle.heap_calls.proofs.heap.Heap.make_pointer.Goals.{After-push_reserved, In_ok-room}
use Rattle.heap_calls.proofs.heap.Heap.make_pointer.Goals as goal

pub returns-in_err-reserve-clause-stops : goal.returns-in_err-reserve-clause-stops
returns-in_err-reserve-clause-stops g c host =
    stops-at-once g.S.BlockStore.TAKES_HOST g.K.PurgeSink.told g.K.PurgeSink.listens KeepsMoves _ _ c.args.self.now _ c.args.sink.now
    (λ m. refl) (rw c.reserve.ensures.items c.self.view_is)
    (rw (← c.self.view_is) (let full = c.in_err-reserve.ensures.full in let fits = c.self.inside.fits in
    omega (arith, length-map c.self.inside.names.items (name_of (g.S.BlockStore.rest c.self.inside.store).slots))))

-- what the call answers where the host has memory
answered : (g : Over) (c : In_ok-room g) → doing_silently (new_pointer c.args.size) c.args.self.now.memory
    ≡ (
      reply_of (is_some c.in_ok-room.room.place) (length c.self.inside.names.items),
      memory_of (g.S.BlockStore.zone c.add_nonrelocatable.new.store) (g.S.BlockStore.rest c.add_nonrelocatable.new.store)
          (pointed c.in_ok-room.room.place c.self.inside.names.items) (record c.self.inside.log {
            searches = counted c.self.inside.log.searches c.in_ok-room.room.searches;
          }),
    )
answered g c =
    let a = c.self.inside in
    pointer-answer (g.S.BlockStore.zone a.store) (g.S.BlockStore.rest a.store) a.names.items a.log
    c.args.self.now.memory (memory_as c.self.view_is) c.args.size (g.S.BlockStore.zone c.add_nonrelocatable.new.store)
    (g.S.BlockStore.rest c.add_nonrelocatable.new.store) c.in_ok-room.room.searches c.add_nonrelocatable.ensures.rest
    c.self.invariant c.in_ok-room.room.place c.in_ok-room.ensures.place c.in_ok-room.ensures.went

pub returns-in_default-clause-answer : goal.returns-in_default-clause-answer
returns-in_default-clause-answer g c = rw (c.count.ensures, c.in_ok-reserve.ensures.items)
    (rw c.in_default.is at (answered g (goal.at.returns-in_default-clause-answer g c).In_ok-room))

pub invariant_of-self-in_err-room : goal.invariant_of-self-in_err-room
invariant_of-self-in_err-room g c = rw c.in_ok-reserve.ensures.items
    (agrees-placed _ _ _ _ _ c.self.invariant c.in_err-room.ensures.nonrelocatable c.add_nonrelocatable.ensures.rest)

-- the entries with the new pointer
entered : (g : Over) (c : After-push_reserved g) → c.push_reserved.new.self.items ≡ c.self.inside.names.items
    ++ Pointer c.in-Some.place ∷ []
entered g c = c.push_reserved.ensures.items ∙ ap (λ l. l ++ Pointer c.in-Some.place ∷ []) c.in_ok-reserve.ensures.items

pub invariant_of-self-2 : goal.invariant_of-self-2
invariant_of-self-2 g c = rw (entered g (goal.at.invariant_of-self-2 g c).After-push_reserved)
    (agrees-more _ _ _ _ _ c.in-Some.place c.self.invariant
    (slots_kept (g.S.BlockStore.rest c.self.inside.store) (g.S.BlockStore.rest c.add_nonrelocatable.new.store)
    c.add_nonrelocatable.ensures.rest)
    (rw c.in-Some.is at c.in_ok-room.ensures.place))

pub returns-clause-answer : goal.returns-clause-answer
returns-clause-answer g c =
    let n : c.len-number.result ≡ length c.self.inside.names.items = omega arith in
    rw (n, entered g (goal.at.returns-clause-answer g c).After-push_reserved, c.count.ensures)
    (rw c.in-Some.is at (answered g (goal.at.returns-clause-answer g c).In_ok-room))

-- the sink is told of the blocks of the call's row
told : (g : Over) (c : In_ok-room g)
    → told_along c.deref.result.now nothing (seek_pointer 0 c.args.size (g.S.BlockStore.zone c.self.inside.store))
    (g.S.BlockStore.zone c.self.inside.store)
    ≡ purges_made (new_pointer c.args.size) c.args.self.now.memory.heap
told g c =
    let a = c.self.inside in
    let zone = g.S.BlockStore.zone a.store in
    ap (λ (e : List Anchor). told_along e nothing (seek_pointer 0 c.args.size zone) zone) (c.deref.ensures.value ∙
    c.in_ok-reserve.ensures.items)
    ∙ pointer-gone zone (g.S.BlockStore.rest a.store) a.names.items a.log c.args.self.now.memory
    (memory_as c.self.view_is) c.args.size

pub returns-in_default-clause-hears : goal.returns-in_default-clause-hears
returns-in_default-clause-hears g c =
    hears-as g.K.PurgeSink.told g.K.PurgeSink.waits g.K.PurgeSink.listens _ _ _ _ _ _
    (λ some. refl) ((told g (goal.at.returns-in_default-clause-hears g c).In_ok-room)) c.in_ok-room.ensures.hears

pub returns-clause-hears : goal.returns-clause-hears
returns-clause-hears g c =
    hears-as g.K.PurgeSink.told g.K.PurgeSink.waits g.K.PurgeSink.listens _ _ _ _ _ _
    (λ some. refl) ((told g (goal.at.returns-clause-hears g c).In_ok-room)) c.in_ok-room.ensures.hears

pub returns-in_err-room-clause-stops : goal.returns-in_err-room-clause-stops
returns-in_err-room-clause-stops g c host =
    let a = c.self.inside in
    stops-halted g.S.BlockStore.TAKES_HOST g.K.PurgeSink.told g.K.PurgeSink.listens KeepsMoves _ _ c.args.self.now _
    c.args.sink.now _ (search rules)
    (heap-same (g.S.BlockStore.zone a.store) (g.S.BlockStore.zone c.add_nonrelocatable.new.store) (g.S.BlockStore.rest a.store)
    (g.S.BlockStore.rest c.add_nonrelocatable.new.store) a.names.items _ a.log c.self.view_is c.in_ok-reserve.ensures.items)
    c.in_err-room.ensures.halts
