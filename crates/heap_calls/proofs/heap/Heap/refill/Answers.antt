use Rattle.heap_calls.proofs.Cited.{◌≡◌, ◌<◌, Some, List, length, refl, sym, ◌∙◌, ap, slice_get, is_some, arith, rules, err_from_is_err_and}
use Rattle.heap_calls.proofs.Cited.{Nothing, Relocatable, Anchor, nothing, slot_of, state_of, refill, purges_made, refill_inside}
use Rattle.heap_calls.proofs.Cited.{no_number, KeepsNames, fresh_block, seek_block, told_along}
use Rattle.heap_calls.specs.Rows.{refused}
use Rattle.heap_calls.specs.declared.anchor.Anchor.TheVariants.{Handle}
use Rattle.heap_calls.proofs.Filled.Refilled.{slot-emptied, refilled-told, refill-none, refill-call}
use Rattle.heap_calls.proofs.Hearing.{hears-as, hears-none, stops-halted}
use Rattle.heap_calls.proofs.Numbering.Answering.{handle_at-refused}
use Rattle.heap_calls.proofs.Numbering.Changing.{agrees-kept, heap-same}
use Rattle.heap_calls.proofs.Numbering.Memories.{memory_as, reply-as}
use Rattle.heap_calls.proofs.Numbering.Numbers.{is_relocatable-number}
use Rattle.heap_calls.proofs.Numbering.Reserved.{fits-same}
use Rattle.heap_calls.proofs.Numbering.Roles.{entry-of}
use Rattle.heap_calls.proofs.Sizes.Grown.{IsCall, grown-answer, grown-gone}
use Rattle.heap_calls.proofs.Went.{unfound-is, unfound-gone}
use Rattle.heap_calls.proofs.heap.Heap.refill.Given.{Over}
use Rattle.heap_calls.proofs.heap.Heap.refill.Goals.{In_err-found, In_ok-found, After-account}
use Rattle.heap_calls.proofs.heap.Heap.refill.Goals as goal

-- the handle's entry
entry : (g : Over) (c : In_ok-found g) → slice_get c.self.inside.names.items c.args.number
    ≡ Some (Handle c.in_ok-found.found.slot c.in_ok-found.found.guarded)
entry g c = entry-of c.self.inside.names.items c.deref.result.now c.args.number c.in_ok-found.found
    c.deref.ensures.value (sym c.slot_of.ensures ∙ c.in_ok-found.was)

pub refill_block-requires-clause-none : goal.refill_block-requires-clause-none
refill_block-requires-clause-none g c =
    let a = c.self.inside in
    let at = entry g (goal.at.refill_block-requires-clause-none g c).In_ok-found in
    let small : c.args.number < no_number = omega arith in
    slot-emptied c.args.self.now.memory (g.S.BlockStore.zone a.store) (g.S.BlockStore.rest a.store) a.names.items a.log
    c.args.number c.in_ok-found.found.slot (memory_as c.self.view_is)
    (is_relocatable-number a.names.items c.args.number c.in_ok-found.found.slot at c.self.invariant.apart small)
    c.requires.emptied

pub invariant_of-self : goal.invariant_of-self
invariant_of-self g c =
    let a = c.self.inside in
    agrees-kept (g.S.BlockStore.zone a.store) (g.S.BlockStore.zone c.refill_block.new.store)
    (g.S.BlockStore.rest a.store) (g.S.BlockStore.rest c.refill_block.new.store) a.names.items c.self.invariant
    c.refill_block.ensures.nonrelocatable c.refill_block.ensures.rest

pub invariant_of-self-2 : goal.invariant_of-self-2
invariant_of-self-2 g c =
    let a = c.self.inside in
    agrees-kept (g.S.BlockStore.zone a.store) (g.S.BlockStore.zone c.refill_block.new.store)
    (g.S.BlockStore.rest a.store) (g.S.BlockStore.rest c.refill_block.new.store) a.names.items c.self.invariant
    c.refill_block.ensures.nonrelocatable c.refill_block.ensures.rest

-- the path of the step
call : (g : Over) (c : After-account g) → IsCall (g.S.BlockStore.zone c.self.inside.store)
    (g.S.BlockStore.rest c.self.inside.store) c.self.inside.names.items
    (refill c.args.number c.args.flags c.args.bytes.now) nothing Nothing (seek_block Nothing (length c.args.bytes.now)
    (Relocatable c.in_ok-found.found.slot c.args.flags c.args.bytes.now) (g.S.BlockStore.zone c.self.inside.store))
call g c =
    let a = c.self.inside in
    refill-call c.args.number c.args.flags c.args.bytes.now (g.S.BlockStore.zone a.store) (g.S.BlockStore.rest a.store)
    a.names.items c.in_ok-found.found.slot (entry-of a.names.items c.deref.result.now c.args.number c.in_ok-found.found
    c.deref.ensures.value (sym c.slot_of.ensures ∙ c.in_ok-found.was)) c.self.invariant.apart

-- what the step answers where the handle is found
told : (g : Over) (c : After-account g) → refill_inside c.args.number c.args.flags c.args.bytes.now c.args.self.now.memory
    ≡ (c.account.result, c.account.new.self.memory)
told g c =
    let a = c.self.inside in
    let zone = g.S.BlockStore.zone a.store in
    let x = c.args.bytes.now in
    let made = c.in_ok-made.made in
    rw (c.account.ensures.reply, c.account.ensures.counted, c.is_some.ensures)
    (grown-answer zone (g.S.BlockStore.rest a.store) a.names.items a.log c.args.self.now.memory (memory_as c.self.view_is)
    (refill c.args.number c.args.flags x) nothing Nothing (seek_block Nothing (length x)
    (Relocatable c.in_ok-found.found.slot c.args.flags x) zone) (call g c) (g.S.BlockStore.zone c.refill_block.new.store)
    (g.S.BlockStore.rest c.refill_block.new.store) (is_some made.slot) made.searches c.in_ok-made.ensures.rest
    c.in_ok-made.ensures.went)

pub returns-in_err-account-clause-answer : goal.returns-in_err-account-clause-answer
returns-in_err-account-clause-answer g c =
    let p = err_from_is_err_and c.from_residual-in_err-account.result c.from_residual-in_err-account.ensures.1 in
    rw (p.1, p.2) (reply-as (told g (goal.at.returns-in_err-account-clause-answer g c).After-account)
    c.in_err-account.was)

pub returns-clause-answer : goal.returns-clause-answer
returns-clause-answer g c =
    reply-as (told g (goal.at.returns-clause-answer g c).After-account) c.in_ok-account.was

pub same-self : goal.same-self
same-self g c = fits-same _ _

-- a name that is no handle's
absent : (g : Over) (c : In_err-found g) → refill c.args.number c.args.flags c.args.bytes.now (state_of
    (g.S.BlockStore.zone c.self.inside.store) (g.S.BlockStore.rest c.self.inside.store).slots c.self.inside.names.items)
    ≡ refused c.in_err-found.field-0.0 (state_of (g.S.BlockStore.zone c.self.inside.store)
    (g.S.BlockStore.rest c.self.inside.store).slots c.self.inside.names.items)
absent g c =
    let a = c.self.inside in
    refill-none c.args.number c.args.flags c.args.bytes.now (g.S.BlockStore.zone a.store) (g.S.BlockStore.rest a.store)
    a.names.items c.in_err-found.field-0.0 (handle_at-refused (g.S.BlockStore.zone a.store)
    (g.S.BlockStore.rest a.store).slots a.names.items (Some c.args.number) c.in_err-found.field-0.0
    (ap (slot_of (Some c.args.number)) (sym c.deref.ensures.value) ∙ sym c.slot_of.ensures ∙ c.in_err-found.was))

pub returns-in_err-found-clause-answer : goal.returns-in_err-found-clause-answer
returns-in_err-found-clause-answer g c =
    let p = err_from_is_err_and c.from_residual.result c.from_residual.ensures.1 in
    let a = c.self.inside in
    rw (p.1, p.2) (unfound-is (g.S.BlockStore.zone a.store) (g.S.BlockStore.rest a.store) a.names.items a.log c.args.self.now.memory
    (memory_as c.self.view_is) (refill c.args.number c.args.flags c.args.bytes.now) c.in_err-found.field-0.0
    (absent g (goal.at.returns-in_err-found-clause-answer g c).In_err-found))

pub returns-in_err-found-clause-hears : goal.returns-in_err-found-clause-hears
returns-in_err-found-clause-hears g c =
    let a = c.self.inside in
    hears-none g.K.PurgeSink.told g.K.PurgeSink.waits g.K.PurgeSink.listens _ _ c.args.sink.now c.requires.idle
    (unfound-gone (g.S.BlockStore.zone a.store) (g.S.BlockStore.rest a.store) a.names.items a.log c.args.self.now.memory
    (memory_as c.self.view_is) (refill c.args.number c.args.flags c.args.bytes.now) c.in_err-found.field-0.0
    (absent g (goal.at.returns-in_err-found-clause-hears g c).In_err-found))

-- the blocks that are purged
gone : (g : Over) (c : After-account g) → told_along c.deref-2.result.now nothing (seek_block Nothing
    (length c.args.bytes.now) (fresh_block 0 (length c.args.bytes.now)) (g.S.BlockStore.zone c.self.inside.store))
    (g.S.BlockStore.zone c.self.inside.store)
    ≡ purges_made (refill c.args.number c.args.flags c.args.bytes.now) c.args.self.now.memory.heap
gone g c =
    let a = c.self.inside in
    let zone = g.S.BlockStore.zone a.store in
    let x = c.args.bytes.now in
    let path = seek_block Nothing (length x) (Relocatable c.in_ok-found.found.slot c.args.flags x) zone in
    refilled-told c.args.number c.args.flags x c.in_ok-found.found.slot zone c.deref-2.result.now
    ∙ ap (λ (e : List Anchor). told_along e nothing path zone) c.deref-2.ensures.value
    ∙ grown-gone zone (g.S.BlockStore.rest a.store) a.names.items a.log c.args.self.now.memory (memory_as c.self.view_is)
    (refill c.args.number c.args.flags x) nothing Nothing path (call g c)

pub returns-in_err-account-clause-hears : goal.returns-in_err-account-clause-hears
returns-in_err-account-clause-hears g c =
    hears-as g.K.PurgeSink.told g.K.PurgeSink.waits g.K.PurgeSink.listens _ _ _ _ _ _ (λ some. refl)
    (gone g (goal.at.returns-in_err-account-clause-hears g c).After-account) c.in_ok-made.ensures.hears

pub returns-clause-hears : goal.returns-clause-hears
returns-clause-hears g c =
    hears-as g.K.PurgeSink.told g.K.PurgeSink.waits g.K.PurgeSink.listens _ _ _ _ _ _ (λ some. refl)
    (gone g (goal.at.returns-clause-hears g c).After-account) c.in_ok-made.ensures.hears

pub returns-in_err-made-clause-stops : goal.returns-in_err-made-clause-stops
returns-in_err-made-clause-stops g c host =
    let a = c.self.inside in
    stops-halted g.S.BlockStore.TAKES_HOST g.K.PurgeSink.told g.K.PurgeSink.listens KeepsNames _ _ c.args.self.now _
    c.args.sink.now _ (search rules)
    (heap-same (g.S.BlockStore.zone a.store) (g.S.BlockStore.zone c.refill_block.new.store) (g.S.BlockStore.rest a.store)
    (g.S.BlockStore.rest c.refill_block.new.store) a.names.items a.names.items a.log c.self.view_is refl)
    c.in_err-made.ensures.halts
