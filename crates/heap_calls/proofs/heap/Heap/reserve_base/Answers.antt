use Rattle.heap_calls.proofs.Cited.{◌≡◌, sym, ◌∙◌, List, ap, refl, rules, err_from_is_err_and, MEM_FULL, is_some, Free, nothing, Base}
use Rattle.heap_calls.proofs.Cited.{seek, told_along, Anchor, reserve_mem}
use Rattle.heap_calls.proofs.Cited.{doing_silently, purges_made, Hears, KeepsMoves}
use Rattle.heap_calls.proofs.Hearing.{stops-halted, hears-as, hears-none}
use Rattle.heap_calls.proofs.Numbering.Changing.{agrees-placed, heap-same}
use Rattle.heap_calls.proofs.Numbering.Memories.{memory_as, reply-as}
use Rattle.heap_calls.proofs.NewBlocks.NewSlots.{went-free}
use Rattle.heap_calls.proofs.Went.{base-is, base-gone, kept-stays, reserves, reserve-row, refused-is, refused-gone}
use Rattle.heap_calls.proofs.heap.Heap.reserve_base.Given.{Over}
use Rattle.heap_calls.proofs.heap.Heap.reserve_base.Goals.{In_ok-room, After-account}
use Rattle.heap_calls.proofs.heap.Heap.reserve_base.Goals as goal

pub returns-in_default-clause-answer : goal.returns-in_default-clause-answer
returns-in_default-clause-answer g c =
    refused-is (reserve_mem c.args.size) MEM_FULL c.args.self.now.memory
    (reserve-row c.args.size c.args.self.now.memory.heap (sym c.phys.ensures ∙ c.in_default.is))

-- what the call answers where a block can have that size
told : (g : Over) (c : After-account g) → doing_silently (reserve_mem c.args.size) c.args.self.now.memory
    ≡ (c.account.result, c.account.new.self.memory)
told g c =
    let a = c.self.inside in
    let now = c.in_ok-room.ensures in
    let zone' = g.S.BlockStore.zone c.make_base.new.store in
    let rest' = g.S.BlockStore.rest c.make_base.new.store in
    rw (c.account.ensures.reply, c.account.ensures.counted, c.is_some.ensures)
    (base-is (g.S.BlockStore.zone a.store) (g.S.BlockStore.rest a.store) a.names.items a.log
    c.args.self.now.memory (memory_as c.self.view_is) zone' rest' (reserve_mem c.args.size) (Free c.in-Some.bytes) refl
    (reserves c.args.size c.in-Some.bytes _ (sym c.phys.ensures ∙ c.in-Some.is)) (is_some c.in_ok-room.room.place)
    c.in_ok-room.room.searches
    (went-free c.in-Some.bytes c.in_ok-room.room.place zone' (g.met.S.BlockStore.tidied c.make_base.new.store) now.room
    (now.went (Free c.in-Some.bytes) refl))
    (kept-stays (g.S.BlockStore.zone a.store) (g.S.BlockStore.rest a.store) a.names.items a.log
    c.args.self.now.memory (memory_as c.self.view_is) zone' rest' now.rest))

pub returns-in_err-account-clause-answer : goal.returns-in_err-account-clause-answer
returns-in_err-account-clause-answer g c =
    let p = err_from_is_err_and c.from_residual-in_err-account.result c.from_residual-in_err-account.ensures.1 in
    rw (p.1, p.2) (reply-as (told g (goal.at.returns-in_err-account-clause-answer g c).After-account)
    c.in_err-account.was)

pub returns-clause-answer : goal.returns-clause-answer
returns-clause-answer g c =
    reply-as (told g (goal.at.returns-clause-answer g c).After-account) c.in_ok-account.was

pub invariant_of-self : goal.invariant_of-self
invariant_of-self g c = agrees-placed _ _ _ _ _ c.self.invariant c.make_base.ensures.nonrelocatable c.make_base.ensures.rest

pub invariant_of-self-2 : goal.invariant_of-self-2
invariant_of-self-2 g c = agrees-placed _ _ _ _ _ c.self.invariant c.make_base.ensures.nonrelocatable c.make_base.ensures.rest

pub returns-in_err-room-clause-stops : goal.returns-in_err-room-clause-stops
returns-in_err-room-clause-stops g c host =
    let a = c.self.inside in
    stops-halted g.S.BlockStore.TAKES_HOST g.K.PurgeSink.told g.K.PurgeSink.listens KeepsMoves _ _ c.args.self.now _
    c.args.sink.now _ (search rules)
    (heap-same (g.S.BlockStore.zone a.store) (g.S.BlockStore.zone c.make_base.new.store) (g.S.BlockStore.rest a.store)
    (g.S.BlockStore.rest c.make_base.new.store) a.names.items a.names.items a.log c.self.view_is refl)
    c.in_err-room.ensures.halts

-- what the sink hears
heard : (g : Over) (c : In_ok-room g) → (done : Type 0)
    → Hears g.K.PurgeSink.told g.K.PurgeSink.waits g.K.PurgeSink.listens done
    (purges_made (reserve_mem c.args.size) c.args.self.now.memory.heap) c.args.sink.now c.make_base.new.sink
heard g c done =
    let a = c.self.inside in
    let zone = g.S.BlockStore.zone a.store in
    let new = Free c.in-Some.bytes in
    let same = ap (λ (e : List Anchor). told_along e nothing (seek (Base new) nothing zone) zone) c.deref.ensures.value
    ∙ base-gone zone (g.S.BlockStore.rest a.store) a.names.items a.log c.args.self.now.memory
    (memory_as c.self.view_is) (g.S.BlockStore.zone c.make_base.new.store)
    (g.S.BlockStore.rest c.make_base.new.store) (reserve_mem c.args.size) new refl
    (reserves c.args.size c.in-Some.bytes _ (sym c.phys.ensures ∙ c.in-Some.is)) in
    hears-as g.K.PurgeSink.told g.K.PurgeSink.waits g.K.PurgeSink.listens _ _ _ _ _ _ (λ some. refl) same
    (c.in_ok-room.ensures.hears new refl)

pub returns-in_err-account-clause-hears : goal.returns-in_err-account-clause-hears
returns-in_err-account-clause-hears g c = heard g (goal.at.returns-in_err-account-clause-hears g c).In_ok-room _

pub returns-clause-hears : goal.returns-clause-hears
returns-clause-hears g c = heard g (goal.at.returns-clause-hears g c).In_ok-room _

pub returns-in_default-clause-hears : goal.returns-in_default-clause-hears
returns-in_default-clause-hears g c =
    hears-none g.K.PurgeSink.told g.K.PurgeSink.waits g.K.PurgeSink.listens _ _ c.args.sink.now c.requires.idle
    (refused-gone (reserve_mem c.args.size) MEM_FULL c.args.self.now.memory.heap
    (reserve-row c.args.size c.args.self.now.memory.heap (sym c.phys.ensures ∙ c.in_default.is)))

pub returns-in_err-room-clause-hears : goal.returns-in_err-room-clause-hears
returns-in_err-room-clause-hears g c = let hears = c.make_base.ensures.hears (Free c.in-Some.bytes) refl in search rules
