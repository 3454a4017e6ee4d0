use Rattle.heap_calls.proofs.Cited.{◌≡◌, refl, ◌∙◌, ap, List, Ok, Err, is_some, rules, err_from_is_err_and, is_relocatable, freed, has-freed}
use Rattle.heap_calls.proofs.Cited.{Freed, Nothing, Anchor, nothing, reallocate_handle, doing_silently, purges_made, KeepsNames}
use Rattle.heap_calls.proofs.Cited.{FindsLoose, state_of, fresh_block, seek_block, told_along}
use Rattle.heap_calls.specs.Rows.{refused}
use Rattle.heap_calls.proofs.Hearing.{hears-as, hears-none, stops-halted}
use Rattle.heap_calls.proofs.NewBlocks.Renewing.{not-loose, reallocate-call, renews, renewed-told}
use Rattle.heap_calls.proofs.Numbering.Changing.{agrees-kept, heap-same}
use Rattle.heap_calls.proofs.Numbering.Loosening.{loose_in}
use Rattle.heap_calls.proofs.Numbering.Memories.{memory_as, reply-as}
use Rattle.heap_calls.proofs.Numbering.Reserved.{fits-same}
use Rattle.heap_calls.proofs.Same.Resizing.{again}
use Rattle.heap_calls.proofs.Sizes.Grown.{IsCall, grown-answer, grown-gone}
use Rattle.heap_calls.proofs.Went.{unfound-is, unfound-gone}
use Rattle.heap_calls.proofs.heap.Heap.reallocate.Given.{Over}
use Rattle.heap_calls.proofs.heap.Heap.reallocate.Goals.{In_err-slot, After-account}
use Rattle.heap_calls.proofs.heap.Heap.reallocate.Goals as goal

-- a handle that isn't found, or has a locked block
absent : (g : Over) (c : In_err-slot g) → reallocate_handle c.args.handle c.args.size
    (state_of (g.S.BlockStore.zone c.self.inside.store) (g.S.BlockStore.rest c.self.inside.store).slots
    c.self.inside.names.items) ≡ refused c.in_err-slot.field-0.0 (state_of (g.S.BlockStore.zone c.self.inside.store)
    (g.S.BlockStore.rest c.self.inside.store).slots c.self.inside.names.items)
absent g c =
    let a = c.self.inside in
    not-loose (g.S.BlockStore.zone a.store) (g.S.BlockStore.rest a.store) a.names.items c.args.handle c.args.size
    c.in_err-slot.field-0.0
    (loose_in _ _ _ _ c.args.handle (Err c.in_err-slot.field-0.0) c.deref.ensures.value c.in_err-slot.ensures)

pub returns-in_err-slot-clause-answer : goal.returns-in_err-slot-clause-answer
returns-in_err-slot-clause-answer g c =
    let p = err_from_is_err_and c.from_residual.result c.from_residual.ensures.1 in
    let a = c.self.inside in
    rw (p.1, p.2) (unfound-is (g.S.BlockStore.zone a.store) (g.S.BlockStore.rest a.store) a.names.items a.log
    c.args.self.now.memory (memory_as c.self.view_is) (reallocate_handle c.args.handle c.args.size)
    c.in_err-slot.field-0.0 (absent g (goal.at.returns-in_err-slot-clause-answer g c).In_err-slot))

-- the slot of the handle
loose : (g : Over) (c : After-account g) → FindsLoose (g.S.BlockStore.zone c.self.inside.store)
    (g.S.BlockStore.rest c.self.inside.store).slots c.self.inside.names.items c.args.handle (Ok c.in_ok-slot.slot)
loose g c = loose_in _ _ _ _ c.args.handle (Ok c.in_ok-slot.slot) c.deref.ensures.value c.in_ok-slot.ensures

-- the path of the call
call : (g : Over) (c : After-account g) → IsCall (g.S.BlockStore.zone c.self.inside.store)
    (g.S.BlockStore.rest c.self.inside.store) c.self.inside.names.items (reallocate_handle c.args.handle c.args.size) nothing
    Nothing (again c.in_ok-slot.slot c.args.size (g.S.BlockStore.zone c.self.inside.store))
call g c =
    let a = c.self.inside in
    let found = loose g c in
    reallocate-call (g.S.BlockStore.zone a.store) (g.S.BlockStore.rest a.store) a.names.items c.args.handle c.args.size found.0
    c.in_ok-slot.slot found.2 found.3 c.self.invariant.apart found.4

-- what the call answers where the handle is found
told : (g : Over) (c : After-account g) → doing_silently (reallocate_handle c.args.handle c.args.size)
    c.args.self.now.memory ≡ (c.account.result, c.account.new.self.memory)
told g c =
    let a = c.self.inside in
    let zone = g.S.BlockStore.zone a.store in
    let zone1 = g.S.BlockStore.zone c.put_block.new.store in
    let rest = g.S.BlockStore.rest a.store in
    let rest1 = g.S.BlockStore.rest c.put_block.new.store in
    let made = c.in_ok-made.made in
    rw (c.account.ensures.reply, c.account.ensures.counted, c.is_some.ensures)
    (grown-answer zone rest a.names.items a.log c.args.self.now.memory (memory_as c.self.view_is)
    (reallocate_handle c.args.handle c.args.size) nothing Nothing (again c.in_ok-slot.slot c.args.size zone) (call g c) zone1
    rest1 (is_some made.slot) made.searches c.in_ok-made.ensures.rest (renews c.in_ok-slot.slot c.args.size zone zone1 rest rest1
    made c.in_ok-made.ensures.went c.in_ok-made.ensures.slot c.in_ok-made.ensures.fresh
    (g.met.S.BlockStore.once c.put_block.new.store)))

pub returns-in_err-account-clause-answer : goal.returns-in_err-account-clause-answer
returns-in_err-account-clause-answer g c =
    let p = err_from_is_err_and c.from_residual-in_err-account.result c.from_residual-in_err-account.ensures.1 in
    rw (p.1, p.2) (reply-as (told g (goal.at.returns-in_err-account-clause-answer g c).After-account)
    c.in_err-account.was)

pub returns-clause-answer : goal.returns-clause-answer
returns-clause-answer g c =
    reply-as (told g (goal.at.returns-clause-answer g c).After-account) c.in_ok-account.was

pub invariant_of-self : goal.invariant_of-self
invariant_of-self g c =
    let a = c.self.inside in
    agrees-kept (g.S.BlockStore.zone a.store) (g.S.BlockStore.zone c.put_block.new.store)
    (g.S.BlockStore.rest a.store) (g.S.BlockStore.rest c.put_block.new.store) a.names.items c.self.invariant
    c.put_block.ensures.nonrelocatable c.in_err-made.ensures.rest

pub invariant_of-self-2 : goal.invariant_of-self-2
invariant_of-self-2 g c =
    let a = c.self.inside in
    agrees-kept (g.S.BlockStore.zone a.store) (g.S.BlockStore.zone c.put_block.new.store)
    (g.S.BlockStore.rest a.store) (g.S.BlockStore.rest c.put_block.new.store) a.names.items c.self.invariant
    c.put_block.ensures.nonrelocatable c.in_ok-made.ensures.rest

pub put_block-requires-clause-none : goal.put_block-requires-clause-none
put_block-requires-clause-none g c =
    has-freed (is_relocatable c.in_ok-slot.slot) (λ n. refl) (g.S.BlockStore.zone c.self.inside.store)

pub same-self : goal.same-self
same-self g c = fits-same _ _

pub returns-in_err-slot-clause-hears : goal.returns-in_err-slot-clause-hears
returns-in_err-slot-clause-hears g c =
    let a = c.self.inside in
    hears-none g.K.PurgeSink.told g.K.PurgeSink.waits g.K.PurgeSink.listens _ _ c.args.sink.now c.requires.idle
    (unfound-gone (g.S.BlockStore.zone a.store) (g.S.BlockStore.rest a.store) a.names.items a.log
    c.args.self.now.memory (memory_as c.self.view_is) (reallocate_handle c.args.handle c.args.size)
    c.in_err-slot.field-0.0 (absent g (goal.at.returns-in_err-slot-clause-hears g c).In_err-slot))

-- the blocks that are purged
gone : (g : Over) (c : After-account g) → told_along c.deref-2.result.now nothing (seek_block (Freed c.in_ok-slot.slot)
    c.args.size (fresh_block 0 c.args.size) (freed (is_relocatable c.in_ok-slot.slot) (g.S.BlockStore.zone c.self.inside.store)))
    (freed (is_relocatable c.in_ok-slot.slot) (g.S.BlockStore.zone c.self.inside.store))
    ≡ purges_made (reallocate_handle c.args.handle c.args.size) c.args.self.now.memory.heap
gone g c =
    let a = c.self.inside in
    let zone = g.S.BlockStore.zone a.store in
    renewed-told c.in_ok-slot.slot c.args.size zone c.deref-2.result.now
    ∙ ap (λ (e : List Anchor). told_along e nothing (again c.in_ok-slot.slot c.args.size zone) zone) c.deref-2.ensures.value
    ∙ grown-gone zone (g.S.BlockStore.rest a.store) a.names.items a.log c.args.self.now.memory (memory_as c.self.view_is)
    (reallocate_handle c.args.handle c.args.size) nothing Nothing (again c.in_ok-slot.slot c.args.size zone) (call g c)

pub returns-in_err-account-clause-hears : goal.returns-in_err-account-clause-hears
returns-in_err-account-clause-hears g c =
    hears-as g.K.PurgeSink.told g.K.PurgeSink.waits g.K.PurgeSink.listens _ _ _ _ _ _ (λ some. refl)
    (gone g (goal.at.returns-in_err-account-clause-hears g c).After-account) c.in_ok-made.ensures.hears

pub returns-clause-hears : goal.returns-clause-hears
returns-clause-hears g c =
    hears-as g.K.PurgeSink.told g.K.PurgeSink.waits g.K.PurgeSink.listens _ _ _ _ _ _ (λ some. refl)
    (gone g (goal.at.returns-clause-hears g c).After-account) c.in_ok-made.ensures.hears

pub returns-in_err-made-clause-stops : goal.returns-in_err-made-clause-stops
returns-in_err-made-clause-stops g c host =
    let a = c.self.inside in
    stops-halted g.S.BlockStore.TAKES_HOST g.K.PurgeSink.told g.K.PurgeSink.listens KeepsNames _ _ c.args.self.now _
    c.args.sink.now _ (search rules)
    (heap-same (g.S.BlockStore.zone a.store) (g.S.BlockStore.zone c.put_block.new.store) (g.S.BlockStore.rest a.store)
    (g.S.BlockStore.rest c.put_block.new.store) a.names.items a.names.items a.log c.self.view_is refl)
    c.in_err-made.ensures.halts
