use Rattle.heap_calls.proofs.Cited.{◌≡◌, Ok, Err, List, ap, refl, rules, ◌∙◌, err_from_is_err_and, is_relocatable, spot}
use Rattle.heap_calls.proofs.Cited.{spared, Two, Anchor, Hears, hand_and_hand, doing_silently, purges_made}
use Rattle.heap_calls.proofs.Cited.{bytes_of, KeepsNames, state_of, Reaches, seek_longer, told_along}
use Rattle.heap_calls.specs.Rows.{refused}
use Rattle.heap_calls.proofs.Hearing.{stops-halted, hears-none, hears-as}
use Rattle.heap_calls.proofs.Numbering.Changing.{agrees-kept, heap-same}
use Rattle.heap_calls.proofs.Numbering.Memories.{memory_as, reply-as}
use Rattle.heap_calls.proofs.Numbering.Reserved.{fits-same}
use Rattle.heap_calls.proofs.Sizes.Grown.{reached_in, hand-none, hand-nowhere, hand-call, grown-answer}
use Rattle.heap_calls.proofs.Sizes.Grown.{grown-gone}
use Rattle.heap_calls.proofs.Went.{unfound-is, unfound-gone}
use Rattle.heap_calls.proofs.heap.Heap.append_handle.Given.{Over}
use Rattle.heap_calls.proofs.heap.Heap.append_handle.Goals.{In_err-source, In_ok-source, In_err-held, After-account}
use Rattle.heap_calls.proofs.heap.Heap.append_handle.Goals as goal

-- where the bytes come from
source : (g : Over) (c : In_ok-source g) → Reaches (g.S.BlockStore.zone c.self.inside.store)
    (g.S.BlockStore.rest c.self.inside.store).slots c.self.inside.names.items c.args.from (Ok c.in_ok-source.source)
source g c = reached_in _ _ _ _ c.args.from (Ok c.in_ok-source.source) c.deref.ensures.value c.in_ok-source.ensures

-- a handle that has no block
absent : (g : Over) (c : In_err-source g) → hand_and_hand c.args.from c.args.to
    (state_of (g.S.BlockStore.zone c.self.inside.store) (g.S.BlockStore.rest c.self.inside.store).slots
    c.self.inside.names.items) ≡ refused c.in_err-source.field-0.0
    (state_of (g.S.BlockStore.zone c.self.inside.store) (g.S.BlockStore.rest c.self.inside.store).slots
    c.self.inside.names.items)
absent g c = hand-none c.args.from c.args.to _ c.in_err-source.field-0.0 (reached_in _ _ _ _ c.args.from
    (Err c.in_err-source.field-0.0) c.deref.ensures.value c.in_err-source.ensures)

nowhere : (g : Over) (c : In_err-held g) → Reaches (g.S.BlockStore.zone c.self.inside.store)
    (g.S.BlockStore.rest c.self.inside.store).slots c.self.inside.names.items c.args.from (Ok c.in_ok-source.source)
    → hand_and_hand c.args.from c.args.to
    (state_of (g.S.BlockStore.zone c.self.inside.store) (g.S.BlockStore.rest c.self.inside.store).slots
    c.self.inside.names.items) ≡ refused c.in_err-held.field-0.0
    (state_of (g.S.BlockStore.zone c.self.inside.store) (g.S.BlockStore.rest c.self.inside.store).slots
    c.self.inside.names.items)
nowhere g c from = hand-nowhere c.args.from c.args.to _ c.in_err-held.field-0.0 _ from.1 (reached_in _ _ _ _ c.args.to
    (Err c.in_err-held.field-0.0) c.deref-2.ensures.value c.in_err-held.ensures)

pub returns-in_err-source-clause-answer : goal.returns-in_err-source-clause-answer
returns-in_err-source-clause-answer g c =
    let p = err_from_is_err_and c.from_residual.result c.from_residual.ensures.1 in
    let a = c.self.inside in
    rw (p.1, p.2) (unfound-is (g.S.BlockStore.zone a.store) (g.S.BlockStore.rest a.store) a.names.items a.log
    c.args.self.now.memory (memory_as c.self.view_is) (hand_and_hand c.args.from c.args.to) c.in_err-source.field-0.0
    (absent g (goal.at.returns-in_err-source-clause-answer g c).In_err-source))

pub invariant_of-self : goal.invariant_of-self
invariant_of-self g c = agrees-kept _ _ _ _ _ c.self.invariant c.append_block.ensures.nonrelocatable c.append_block.ensures.rest

pub returns-in_err-held-clause-answer : goal.returns-in_err-held-clause-answer
returns-in_err-held-clause-answer g c =
    let at = goal.at.returns-in_err-held-clause-answer g c in
    let p = err_from_is_err_and c.from_residual-in_err-held.result c.from_residual-in_err-held.ensures.1 in
    let a = c.self.inside in
    rw (p.1, p.2) (unfound-is (g.S.BlockStore.zone a.store) (g.S.BlockStore.rest a.store) a.names.items a.log
    c.args.self.now.memory (memory_as c.self.view_is) (hand_and_hand c.args.from c.args.to) c.in_err-held.field-0.0
    (nowhere g at.In_err-held (source g at.In_ok-source)))

-- the block that they are appended to
reached : (g : Over) (c : After-account g) → Reaches (g.S.BlockStore.zone c.self.inside.store)
    (g.S.BlockStore.rest c.self.inside.store).slots c.self.inside.names.items c.args.to (Ok c.in_ok-held.held)
reached g c = reached_in _ _ _ _ c.args.to (Ok c.in_ok-held.held) c.deref-2.ensures.value c.in_ok-held.ensures

-- what the call answers where both handles have a block
told : (g : Over) (c : After-account g) → Reaches (g.S.BlockStore.zone c.self.inside.store)
    (g.S.BlockStore.rest c.self.inside.store).slots c.self.inside.names.items c.args.from (Ok c.in_ok-source.source)
    → doing_silently (hand_and_hand c.args.from c.args.to) c.args.self.now.memory
    ≡ (c.account.result, c.account.new.self.memory)
told g c from =
    let a = c.self.inside in
    let zone = g.S.BlockStore.zone a.store in
    let rest = g.S.BlockStore.rest a.store in
    let one = c.in_ok-source.source in
    let held = c.in_ok-held.held in
    let there = reached g c in
    let nd = Two one.slot held.slot in
    rw (c.account.ensures.reply, c.account.ensures.counted)
    (grown-answer zone rest a.names.items a.log c.args.self.now.memory (memory_as c.self.view_is)
    (hand_and_hand c.args.from c.args.to) _ nd _
    (hand-call zone rest a.names.items c.self.invariant c.args.from c.args.to one held from there)
    (g.S.BlockStore.zone c.append_block.new.store) (g.S.BlockStore.rest c.append_block.new.store)
    c.in_ok-grown.grown.done c.in_ok-grown.grown.searches c.in_ok-grown.ensures.rest c.in_ok-grown.ensures.went)

pub returns-in_err-account-clause-answer : goal.returns-in_err-account-clause-answer
returns-in_err-account-clause-answer g c =
    let p = err_from_is_err_and c.from_residual-in_err-account.result c.from_residual-in_err-account.ensures.1 in
    rw (p.1, p.2) (reply-as (told g (goal.at.returns-in_err-account-clause-answer g c).After-account
    (source g (goal.at.returns-in_err-account-clause-answer g c).In_ok-source))
    c.in_err-account.was)

pub returns-clause-answer : goal.returns-clause-answer
returns-clause-answer g c =
    reply-as (told g (goal.at.returns-clause-answer g c).After-account
    (source g (goal.at.returns-clause-answer g c).In_ok-source)) c.in_ok-account.was

pub invariant_of-self-2 : goal.invariant_of-self-2
invariant_of-self-2 g c = agrees-kept _ _ _ _ _ c.self.invariant c.append_block.ensures.nonrelocatable
    c.append_block.ensures.rest

pub same-self : goal.same-self
same-self g c = fits-same _ _

pub same-self-in_err-held : goal.same-self-in_err-held
same-self-in_err-held g c = fits-same _ _

-- what the sink hears
pub returns-in_err-source-clause-hears : goal.returns-in_err-source-clause-hears
returns-in_err-source-clause-hears g c =
    let a = c.self.inside in
    hears-none g.K.PurgeSink.told g.K.PurgeSink.waits g.K.PurgeSink.listens _ _ c.args.sink.now c.requires.idle
    (unfound-gone (g.S.BlockStore.zone a.store) (g.S.BlockStore.rest a.store) a.names.items a.log
    c.args.self.now.memory (memory_as c.self.view_is) (hand_and_hand c.args.from c.args.to) c.in_err-source.field-0.0
    (absent g (goal.at.returns-in_err-source-clause-hears g c).In_err-source))

pub returns-in_err-held-clause-hears : goal.returns-in_err-held-clause-hears
returns-in_err-held-clause-hears g c =
    let at = goal.at.returns-in_err-held-clause-hears g c in
    let a = c.self.inside in
    hears-none g.K.PurgeSink.told g.K.PurgeSink.waits g.K.PurgeSink.listens _ _ c.args.sink.now c.requires.idle
    (unfound-gone (g.S.BlockStore.zone a.store) (g.S.BlockStore.rest a.store) a.names.items a.log
    c.args.self.now.memory (memory_as c.self.view_is) (hand_and_hand c.args.from c.args.to) c.in_err-held.field-0.0
    (nowhere g at.In_err-held (source g at.In_ok-source)))

heard : (g : Over) (c : After-account g) → Reaches (g.S.BlockStore.zone c.self.inside.store)
    (g.S.BlockStore.rest c.self.inside.store).slots c.self.inside.names.items c.args.from (Ok c.in_ok-source.source)
    → (done : Type 0) → Hears g.K.PurgeSink.told g.K.PurgeSink.waits g.K.PurgeSink.listens done
    (purges_made (hand_and_hand c.args.from c.args.to) c.args.self.now.memory.heap) c.args.sink.now
    c.append_block.new.sink
heard g c from done =
    let a = c.self.inside in
    let zone = g.S.BlockStore.zone a.store in
    let rest = g.S.BlockStore.rest a.store in
    let one = c.in_ok-source.source in
    let held = c.in_ok-held.held in
    let there = reached g c in
    let nd = Two one.slot held.slot in
    let x = bytes_of (spot (is_relocatable one.slot) zone) in
    let same = ap (λ (e : List Anchor). told_along e (spared nd) (seek_longer held.slot x (spared nd) zone) zone)
    c.deref-3.ensures.value
    ∙ grown-gone zone rest a.names.items a.log c.args.self.now.memory (memory_as c.self.view_is)
    (hand_and_hand c.args.from c.args.to) _ nd _
    (hand-call zone rest a.names.items c.self.invariant c.args.from c.args.to one held from there) in
    hears-as g.K.PurgeSink.told g.K.PurgeSink.waits g.K.PurgeSink.listens _ _ _ _ _ _ (λ some. refl) same
    c.in_ok-grown.ensures.hears

pub returns-in_err-account-clause-hears : goal.returns-in_err-account-clause-hears
returns-in_err-account-clause-hears g c = heard g (goal.at.returns-in_err-account-clause-hears g c).After-account
    (source g (goal.at.returns-in_err-account-clause-hears g c).In_ok-source) _

pub returns-clause-hears : goal.returns-clause-hears
returns-clause-hears g c = heard g (goal.at.returns-clause-hears g c).After-account
    (source g (goal.at.returns-clause-hears g c).In_ok-source) _

pub returns-in_err-grown-clause-stops : goal.returns-in_err-grown-clause-stops
returns-in_err-grown-clause-stops g c host =
    let a = c.self.inside in
    stops-halted g.S.BlockStore.TAKES_HOST g.K.PurgeSink.told g.K.PurgeSink.listens KeepsNames _ _ c.args.self.now _
    c.args.sink.now _ (search rules)
    (heap-same (g.S.BlockStore.zone a.store) (g.S.BlockStore.zone c.append_block.new.store) (g.S.BlockStore.rest a.store)
    (g.S.BlockStore.rest c.append_block.new.store) a.names.items a.names.items a.log c.self.view_is refl)
    c.in_err-grown.ensures.halts
