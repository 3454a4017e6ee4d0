use Rattle.heap_calls.proofs.Cited.{◌≡◌, arith, Err, List, ap, refl, ◌∙◌, rules, err_from_is_err_and, is_nonrelocatable, Nothing, Anchor}
use Rattle.heap_calls.proofs.Cited.{nothing, Hears, set_pointer_size, doing_silently, purges_made, KeepsMoves, state_of, seek_sized, told_along}
use Rattle.heap_calls.specs.Rows.{refused}
use Rattle.heap_calls.proofs.Hearing.{stops-halted, hears-none, hears-as}
use Rattle.heap_calls.proofs.Numbering.Changing.{agrees-placed, slots_kept, heap-same}
use Rattle.heap_calls.proofs.Numbering.Memories.{memory_as, reply-as}
use Rattle.heap_calls.proofs.Numbering.Pointing.{IsHeld, pointer-held, target_in, pointed_at-refused}
use Rattle.heap_calls.proofs.Numbering.Reserved.{fits-same}
use Rattle.heap_calls.proofs.Sizes.Grown.{pointer-none, pointer-call, grown-answer, grown-gone}
use Rattle.heap_calls.proofs.Went.{unfound-is, unfound-gone}
use Rattle.heap_calls.proofs.heap.Heap.fit_pointer.Given.{Over}
use Rattle.heap_calls.proofs.heap.Heap.fit_pointer.Goals.{In_err-target, In_ok-target, After-account}
use Rattle.heap_calls.proofs.heap.Heap.fit_pointer.Goals as goal

-- the pointer's block
target : (g : Over) (c : In_ok-target g) → IsHeld (g.S.BlockStore.zone c.self.inside.store)
    (g.S.BlockStore.rest c.self.inside.store).slots c.self.inside.names.items c.args.pointer c.in_ok-target.target
target g c =
    let a = c.self.inside in
    pointer-held (g.S.BlockStore.zone a.store) (g.S.BlockStore.rest a.store) a.names.items _ c.args.pointer
    c.in_ok-target.target c.self.invariant (g.met.S.BlockStore.placed a.store) (g.met.S.BlockStore.tidied a.store)
    (omega arith) c.deref.ensures.value c.in_ok-target.ensures

-- a name that is no pointer's
absent : (g : Over) (c : In_err-target g) → set_pointer_size c.args.pointer c.args.size
    (state_of (g.S.BlockStore.zone c.self.inside.store) (g.S.BlockStore.rest c.self.inside.store).slots
    c.self.inside.names.items) ≡ refused c.in_err-target.field-0.0
    (state_of (g.S.BlockStore.zone c.self.inside.store) (g.S.BlockStore.rest c.self.inside.store).slots
    c.self.inside.names.items)
absent g c =
    let a = c.self.inside in
    let e = c.in_err-target.field-0.0 in
    pointer-none c.args.pointer c.args.size _ e (pointed_at-refused (g.S.BlockStore.zone a.store)
    (g.S.BlockStore.rest a.store).slots a.names.items c.args.pointer e
    (target_in a.names.items _ c.args.pointer (Err e) c.deref.ensures.value c.in_err-target.ensures))

pub returns-in_err-target-clause-answer : goal.returns-in_err-target-clause-answer
returns-in_err-target-clause-answer g c =
    let p = err_from_is_err_and c.from_residual.result c.from_residual.ensures.1 in
    let a = c.self.inside in
    rw (p.1, p.2) (unfound-is (g.S.BlockStore.zone a.store) (g.S.BlockStore.rest a.store) a.names.items a.log
    c.args.self.now.memory (memory_as c.self.view_is) (set_pointer_size c.args.pointer c.args.size)
    c.in_err-target.field-0.0 (absent g (goal.at.returns-in_err-target-clause-answer g c).In_err-target))

pub fit_nonrelocatable-requires-clause-found : goal.fit_nonrelocatable-requires-clause-found
fit_nonrelocatable-requires-clause-found g c =
    let there = target g (goal.at.fit_nonrelocatable-requires-clause-found g c).In_ok-target in
    (there.s, there.found, there.at, there.distance)

pub invariant_of-self : goal.invariant_of-self
invariant_of-self g c =
    let a = c.self.inside in
    agrees-placed (g.S.BlockStore.zone a.store) (g.S.BlockStore.zone c.fit_nonrelocatable.new.store) (g.S.BlockStore.rest a.store)
    (g.S.BlockStore.rest c.fit_nonrelocatable.new.store) a.names.items c.self.invariant c.fit_nonrelocatable.ensures.nonrelocatable
    c.fit_nonrelocatable.ensures.rest

pub invariant_of-self-2 : goal.invariant_of-self-2
invariant_of-self-2 g c =
    let a = c.self.inside in
    agrees-placed (g.S.BlockStore.zone a.store) (g.S.BlockStore.zone c.fit_nonrelocatable.new.store) (g.S.BlockStore.rest a.store)
    (g.S.BlockStore.rest c.fit_nonrelocatable.new.store) a.names.items c.self.invariant c.fit_nonrelocatable.ensures.nonrelocatable
    c.fit_nonrelocatable.ensures.rest

-- what the call answers where the pointer has a block
told : (g : Over) (c : After-account g) → IsHeld (g.S.BlockStore.zone c.self.inside.store)
    (g.S.BlockStore.rest c.self.inside.store).slots c.self.inside.names.items c.args.pointer c.in_ok-target.target
    → doing_silently (set_pointer_size c.args.pointer c.args.size) c.args.self.now.memory
    ≡ (c.account.result, c.account.new.self.memory)
told g c there =
    let a = c.self.inside in
    let zone = g.S.BlockStore.zone a.store in
    let rest = g.S.BlockStore.rest a.store in
    let rest' = g.S.BlockStore.rest c.fit_nonrelocatable.new.store in
    let t = c.in_ok-target.target in
    let lone = c.self.invariant.lone in
    rw (c.account.ensures.reply, c.account.ensures.counted)
    (grown-answer zone rest a.names.items a.log c.args.self.now.memory (memory_as c.self.view_is)
    (set_pointer_size c.args.pointer c.args.size) nothing Nothing _
    (pointer-call zone rest a.names.items c.args.pointer t there lone c.args.size (omega arith))
    (g.S.BlockStore.zone c.fit_nonrelocatable.new.store) rest' c.in_ok-grown.grown.done c.in_ok-grown.grown.searches
    (slots_kept rest rest' c.fit_nonrelocatable.ensures.rest) c.in_ok-grown.ensures.went)

pub returns-in_err-account-clause-answer : goal.returns-in_err-account-clause-answer
returns-in_err-account-clause-answer g c =
    let p = err_from_is_err_and c.from_residual-in_err-account.result c.from_residual-in_err-account.ensures.1 in
    rw (p.1, p.2) (reply-as (told g (goal.at.returns-in_err-account-clause-answer g c).After-account
    (target g (goal.at.returns-in_err-account-clause-answer g c).In_ok-target))
    c.in_err-account.was)

pub returns-clause-answer : goal.returns-clause-answer
returns-clause-answer g c =
    reply-as (told g (goal.at.returns-clause-answer g c).After-account
    (target g (goal.at.returns-clause-answer g c).In_ok-target)) c.in_ok-account.was

-- what the sink hears
pub returns-in_err-target-clause-hears : goal.returns-in_err-target-clause-hears
returns-in_err-target-clause-hears g c =
    let a = c.self.inside in
    hears-none g.K.PurgeSink.told g.K.PurgeSink.waits g.K.PurgeSink.listens _ _ c.args.sink.now c.requires.idle
    (unfound-gone (g.S.BlockStore.zone a.store) (g.S.BlockStore.rest a.store) a.names.items a.log
    c.args.self.now.memory (memory_as c.self.view_is) (set_pointer_size c.args.pointer c.args.size)
    c.in_err-target.field-0.0 (absent g (goal.at.returns-in_err-target-clause-hears g c).In_err-target))

heard : (g : Over) (c : After-account g) → IsHeld (g.S.BlockStore.zone c.self.inside.store)
    (g.S.BlockStore.rest c.self.inside.store).slots c.self.inside.names.items c.args.pointer c.in_ok-target.target
    → (done : Type 0) → Hears g.K.PurgeSink.told g.K.PurgeSink.waits g.K.PurgeSink.listens done
    (purges_made (set_pointer_size c.args.pointer c.args.size) c.args.self.now.memory.heap) c.args.sink.now
    c.fit_nonrelocatable.new.sink
heard g c there done =
    let a = c.self.inside in
    let zone = g.S.BlockStore.zone a.store in
    let rest = g.S.BlockStore.rest a.store in
    let t = c.in_ok-target.target in
    let lone = c.self.invariant.lone in
    let same = ap (λ (e : List Anchor). told_along e nothing (seek_sized (is_nonrelocatable t.place) c.args.size nothing
    zone) zone) c.deref-2.ensures.value
    ∙ grown-gone zone rest a.names.items a.log c.args.self.now.memory (memory_as c.self.view_is)
    (set_pointer_size c.args.pointer c.args.size) nothing Nothing _
    (pointer-call zone rest a.names.items c.args.pointer t there lone c.args.size (omega arith)) in
    hears-as g.K.PurgeSink.told g.K.PurgeSink.waits g.K.PurgeSink.listens _ _ _ _ _ _ (λ some. refl) same
    c.in_ok-grown.ensures.hears

pub returns-in_err-account-clause-hears : goal.returns-in_err-account-clause-hears
returns-in_err-account-clause-hears g c = heard g (goal.at.returns-in_err-account-clause-hears g c).After-account
    (target g (goal.at.returns-in_err-account-clause-hears g c).In_ok-target) _

pub returns-clause-hears : goal.returns-clause-hears
returns-clause-hears g c = heard g (goal.at.returns-clause-hears g c).After-account
    (target g (goal.at.returns-clause-hears g c).In_ok-target) _

pub returns-in_err-grown-clause-stops : goal.returns-in_err-grown-clause-stops
returns-in_err-grown-clause-stops g c host =
    let a = c.self.inside in
    stops-halted g.S.BlockStore.TAKES_HOST g.K.PurgeSink.told g.K.PurgeSink.listens KeepsMoves _ _ c.args.self.now _
    c.args.sink.now _ (search rules)
    (heap-same (g.S.BlockStore.zone a.store) (g.S.BlockStore.zone c.fit_nonrelocatable.new.store) (g.S.BlockStore.rest a.store)
    (g.S.BlockStore.rest c.fit_nonrelocatable.new.store) a.names.items a.names.items a.log c.self.view_is refl)
    c.in_err-grown.ensures.halts

pub same-self : goal.same-self
same-self g c = fits-same _ _
