use Rattle.heap_calls.proofs.Cited.{◌≡◌, Ok, Err, List, ap, refl, rules, ◌∙◌, err_from_is_err_and, is_relocatable, One, Anchor}
use Rattle.heap_calls.proofs.Cited.{Hears, pointer_and_hand, doing_silently, purges_made, KeepsNames, state_of, Reaches, seek_longer}
use Rattle.heap_calls.proofs.Cited.{told_along}
use Rattle.heap_calls.specs.Rows.{refused}
use Rattle.heap_calls.proofs.Hearing.{stops-halted, hears-none, hears-as}
use Rattle.heap_calls.proofs.Numbering.Changing.{agrees-kept, heap-same}
use Rattle.heap_calls.proofs.Numbering.Memories.{memory_as, reply-as}
use Rattle.heap_calls.proofs.Numbering.Reserved.{fits-same}
use Rattle.heap_calls.proofs.Sizes.Grown.{reached_in, slice-none, slice-call, grown-answer, grown-gone}
use Rattle.heap_calls.proofs.Went.{unfound-is, unfound-gone}
use Rattle.heap_calls.proofs.heap.Heap.append_slice.Given.{Over}
use Rattle.heap_calls.proofs.heap.Heap.append_slice.Goals.{In_err-held, After-account}
use Rattle.heap_calls.proofs.heap.Heap.append_slice.Goals as goal

-- a handle that has no block
absent : (g : Over) (c : In_err-held g) → pointer_and_hand c.args.handle c.args.bytes.now
    (state_of (g.S.BlockStore.zone c.self.inside.store) (g.S.BlockStore.rest c.self.inside.store).slots
    c.self.inside.names.items) ≡ refused c.in_err-held.field-0.0 (state_of (g.S.BlockStore.zone c.self.inside.store)
    (g.S.BlockStore.rest c.self.inside.store).slots c.self.inside.names.items)
absent g c = slice-none c.args.handle c.args.bytes.now _ c.in_err-held.field-0.0 (reached_in _ _ _ _ c.args.handle
    (Err c.in_err-held.field-0.0) c.deref.ensures.value c.in_err-held.ensures)

pub returns-in_err-held-clause-answer : goal.returns-in_err-held-clause-answer
returns-in_err-held-clause-answer g c =
    let p = err_from_is_err_and c.from_residual.result c.from_residual.ensures.1 in
    let a = c.self.inside in
    rw (p.1, p.2) (unfound-is (g.S.BlockStore.zone a.store) (g.S.BlockStore.rest a.store) a.names.items a.log
    c.args.self.now.memory (memory_as c.self.view_is) (pointer_and_hand c.args.handle c.args.bytes.now)
    c.in_err-held.field-0.0 (absent g (goal.at.returns-in_err-held-clause-answer g c).In_err-held))

pub invariant_of-self : goal.invariant_of-self
invariant_of-self g c = agrees-kept _ _ _ _ _ c.self.invariant c.append_bytes.ensures.nonrelocatable c.append_bytes.ensures.rest

-- the handle's block
reached : (g : Over) (c : After-account g) → Reaches (g.S.BlockStore.zone c.self.inside.store)
    (g.S.BlockStore.rest c.self.inside.store).slots c.self.inside.names.items c.args.handle (Ok c.in_ok-held.held)
reached g c = reached_in _ _ _ _ c.args.handle (Ok c.in_ok-held.held) c.deref.ensures.value c.in_ok-held.ensures

-- what the call answers where the handle has a block
told : (g : Over) (c : After-account g) → doing_silently (pointer_and_hand c.args.handle c.args.bytes.now)
    c.args.self.now.memory ≡ (c.account.result, c.account.new.self.memory)
told g c =
    let a = c.self.inside in
    let zone = g.S.BlockStore.zone a.store in
    let rest = g.S.BlockStore.rest a.store in
    let held = c.in_ok-held.held in
    let there = reached g c in
    rw (c.account.ensures.reply, c.account.ensures.counted)
    (grown-answer zone rest a.names.items a.log c.args.self.now.memory (memory_as c.self.view_is)
    (pointer_and_hand c.args.handle c.args.bytes.now) (is_relocatable held.number) (One held.slot) _
    (slice-call zone rest a.names.items c.self.invariant c.args.handle held there c.args.bytes.now)
    (g.S.BlockStore.zone c.append_bytes.new.store) (g.S.BlockStore.rest c.append_bytes.new.store)
    c.in_ok-grown.grown.done c.in_ok-grown.grown.searches c.in_ok-grown.ensures.rest c.in_ok-grown.ensures.went)

pub returns-in_err-account-clause-answer : goal.returns-in_err-account-clause-answer
returns-in_err-account-clause-answer g c =
    let p = err_from_is_err_and c.from_residual-in_err-account.result c.from_residual-in_err-account.ensures.1 in
    rw (p.1, p.2) (reply-as (told g (goal.at.returns-in_err-account-clause-answer g c).After-account)
    c.in_err-account.was)

pub returns-clause-answer : goal.returns-clause-answer
returns-clause-answer g c =
    reply-as (told g (goal.at.returns-clause-answer g c).After-account) c.in_ok-account.was

pub invariant_of-self-2 : goal.invariant_of-self-2
invariant_of-self-2 g c = agrees-kept _ _ _ _ _ c.self.invariant c.append_bytes.ensures.nonrelocatable
    c.append_bytes.ensures.rest

pub same-self : goal.same-self
same-self g c = fits-same _ _

-- what the sink hears
pub returns-in_err-held-clause-hears : goal.returns-in_err-held-clause-hears
returns-in_err-held-clause-hears g c =
    let a = c.self.inside in
    hears-none g.K.PurgeSink.told g.K.PurgeSink.waits g.K.PurgeSink.listens _ _ c.args.sink.now c.requires.idle
    (unfound-gone (g.S.BlockStore.zone a.store) (g.S.BlockStore.rest a.store) a.names.items a.log
    c.args.self.now.memory (memory_as c.self.view_is) (pointer_and_hand c.args.handle c.args.bytes.now)
    c.in_err-held.field-0.0 (absent g (goal.at.returns-in_err-held-clause-hears g c).In_err-held))

heard : (g : Over) (c : After-account g) → (done : Type 0)
    → Hears g.K.PurgeSink.told g.K.PurgeSink.waits g.K.PurgeSink.listens done
    (purges_made (pointer_and_hand c.args.handle c.args.bytes.now) c.args.self.now.memory.heap) c.args.sink.now
    c.append_bytes.new.sink
heard g c done =
    let a = c.self.inside in
    let zone = g.S.BlockStore.zone a.store in
    let rest = g.S.BlockStore.rest a.store in
    let held = c.in_ok-held.held in
    let there = reached g c in
    let t = is_relocatable held.slot in
    let same = ap (λ (e : List Anchor). told_along e t (seek_longer held.slot c.args.bytes.now t zone) zone)
    c.deref-2.ensures.value
    ∙ grown-gone zone rest a.names.items a.log c.args.self.now.memory (memory_as c.self.view_is)
    (pointer_and_hand c.args.handle c.args.bytes.now) (is_relocatable held.number) (One held.slot) _
    (slice-call zone rest a.names.items c.self.invariant c.args.handle held there c.args.bytes.now) in
    hears-as g.K.PurgeSink.told g.K.PurgeSink.waits g.K.PurgeSink.listens _ _ _ _ _ _ (λ some. refl) same
    c.in_ok-grown.ensures.hears

pub returns-in_err-account-clause-hears : goal.returns-in_err-account-clause-hears
returns-in_err-account-clause-hears g c = heard g (goal.at.returns-in_err-account-clause-hears g c).After-account _

pub returns-clause-hears : goal.returns-clause-hears
returns-clause-hears g c = heard g (goal.at.returns-clause-hears g c).After-account _

pub returns-in_err-grown-clause-stops : goal.returns-in_err-grown-clause-stops
returns-in_err-grown-clause-stops g c host =
    let a = c.self.inside in
    stops-halted g.S.BlockStore.TAKES_HOST g.K.PurgeSink.told g.K.PurgeSink.listens KeepsNames _ _ c.args.self.now _
    c.args.sink.now _ (search rules)
    (heap-same (g.S.BlockStore.zone a.store) (g.S.BlockStore.zone c.append_bytes.new.store) (g.S.BlockStore.rest a.store)
    (g.S.BlockStore.rest c.append_bytes.new.store) a.names.items a.names.items a.log c.self.view_is refl)
    c.in_err-grown.ensures.halts
