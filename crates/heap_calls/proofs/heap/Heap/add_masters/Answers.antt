use Rattle.heap_calls.proofs.Cited.{◌≡◌, ◌∙◌, refl, List, ap, err_from_is_err_and, is_some, Masters, nothing, Base, seek, told_along}
use Rattle.heap_calls.proofs.Cited.{Anchor, doing_silently, purges_made, Hears}
use Rattle.heap_calls.proofs.Cited.{KeepsMoves}
use Rattle.heap_calls.specs.Rows.{more_masters}
use Rattle.heap_calls.proofs.Hearing.{stops-halted, hears-as}
use Rattle.heap_calls.proofs.NewBlocks.NewHandles.{agrees-more, kept-still}
use Rattle.heap_calls.proofs.Numbering.Changing.{heap-same}
use Rattle.heap_calls.proofs.Numbering.Memories.{memory_as, reply-as}
use Rattle.heap_calls.proofs.Went.{base-is, base-gone, gains-stays, gains-agrees}
use Rattle.heap_calls.proofs.heap.Heap.add_masters.Given.{Over}
use Rattle.heap_calls.proofs.heap.Heap.add_masters.Goals.{In_ok-room, After-account}
use Rattle.heap_calls.proofs.heap.Heap.add_masters.Goals as goal

pub invariant_of-self : goal.invariant_of-self
invariant_of-self g c =
    let a = c.self.inside in
    agrees-more (g.S.BlockStore.zone c.make_masters.new.store) (g.S.BlockStore.rest a.store)
    (g.S.BlockStore.rest c.make_masters.new.store) a.names.items c.self.invariant c.make_masters.ensures.nonrelocatable
    c.in_err-room.ensures.kept

pub invariant_of-self-2 : goal.invariant_of-self-2
invariant_of-self-2 g c =
    let a = c.self.inside in
    gains-agrees (g.S.BlockStore.zone a.store) (g.S.BlockStore.rest a.store) a.names.items a.log
    c.args.self.now.memory (memory_as c.self.view_is) (g.S.BlockStore.zone c.make_masters.new.store)
    (g.S.BlockStore.rest c.make_masters.new.store) c.self.invariant c.make_masters.ensures.nonrelocatable
    c.in_ok-room.room.place c.in_ok-room.ensures.slots

-- what the call answers where the host has memory
told : (g : Over) (c : After-account g) → doing_silently more_masters c.args.self.now.memory
    ≡ (c.account.result, c.account.new.self.memory)
told g c =
    let a = c.self.inside in
    rw (c.account.ensures.reply, c.account.ensures.counted, c.is_some.ensures)
    (base-is (g.S.BlockStore.zone a.store) (g.S.BlockStore.rest a.store) a.names.items a.log
    c.args.self.now.memory (memory_as c.self.view_is) (g.S.BlockStore.zone c.make_masters.new.store)
    (g.S.BlockStore.rest c.make_masters.new.store) more_masters Masters refl refl (is_some c.in_ok-room.room.place)
    c.in_ok-room.room.searches c.in_ok-room.ensures.went
    (gains-stays (g.S.BlockStore.zone a.store) (g.S.BlockStore.rest a.store) a.names.items a.log
    c.args.self.now.memory (memory_as c.self.view_is) (g.S.BlockStore.zone c.make_masters.new.store)
    (g.S.BlockStore.rest c.make_masters.new.store) c.self.invariant c.in_ok-room.room.place
    c.in_ok-room.ensures.slots))

pub returns-in_err-account-clause-answer : goal.returns-in_err-account-clause-answer
returns-in_err-account-clause-answer g c =
    let p = err_from_is_err_and c.from_residual-in_err-account.result c.from_residual-in_err-account.ensures.1 in
    rw (p.1, p.2) (reply-as (told g (goal.at.returns-in_err-account-clause-answer g c).After-account)
    c.in_err-account.was)

pub returns-clause-answer : goal.returns-clause-answer
returns-clause-answer g c =
    reply-as (told g (goal.at.returns-clause-answer g c).After-account) c.in_ok-account.was

pub returns-in_err-room-clause-stops : goal.returns-in_err-room-clause-stops
returns-in_err-room-clause-stops g c host =
    let a = c.self.inside in
    stops-halted g.S.BlockStore.TAKES_HOST g.K.PurgeSink.told g.K.PurgeSink.listens KeepsMoves _ _ c.args.self.now _
    c.args.sink.now _ (kept-still c.args.self.now.memory (g.S.BlockStore.zone a.store) (g.S.BlockStore.zone c.make_masters.new.store)
    (g.S.BlockStore.rest a.store) (g.S.BlockStore.rest c.make_masters.new.store)
    a.names.items a.names.items a.log (memory_as c.self.view_is) refl c.self.invariant c.in_err-room.ensures.kept
    c.make_masters.ensures.moves)
    (heap-same (g.S.BlockStore.zone a.store) (g.S.BlockStore.zone c.make_masters.new.store) (g.S.BlockStore.rest a.store)
    (g.S.BlockStore.rest c.make_masters.new.store) a.names.items a.names.items a.log c.self.view_is refl)
    c.in_err-room.ensures.halts

-- what the sink hears
heard : (g : Over) (c : In_ok-room g) → (done : Type 0)
    → Hears g.K.PurgeSink.told g.K.PurgeSink.waits g.K.PurgeSink.listens done
    (purges_made more_masters c.args.self.now.memory.heap) c.args.sink.now c.make_masters.new.sink
heard g c done =
    let a = c.self.inside in
    let zone = g.S.BlockStore.zone a.store in
    let same = ap (λ (e : List Anchor). told_along e nothing (seek (Base Masters) nothing zone) zone) c.deref.ensures.value
    ∙ base-gone zone (g.S.BlockStore.rest a.store) a.names.items a.log c.args.self.now.memory
    (memory_as c.self.view_is) (g.S.BlockStore.zone c.make_masters.new.store)
    (g.S.BlockStore.rest c.make_masters.new.store) more_masters Masters refl refl in
    hears-as g.K.PurgeSink.told g.K.PurgeSink.waits g.K.PurgeSink.listens _ _ _ _ _ _ (λ some. refl) same
    c.in_ok-room.ensures.hears

pub returns-in_err-account-clause-hears : goal.returns-in_err-account-clause-hears
returns-in_err-account-clause-hears g c = heard g (goal.at.returns-in_err-account-clause-hears g c).In_ok-room _

pub returns-clause-hears : goal.returns-clause-hears
returns-clause-hears g c = heard g (goal.at.returns-clause-hears g c).In_ok-room _
