use Rattle.heap_calls.proofs.Cited.{rules, ◌≡◌, ℕ, true, Option, Some, None, inl, inr, refl, length, on_err, Plain, Tells, purges_made}
use Rattle.heap_calls.proofs.Cited.{new_filled, Resource, new_inside, entered, number_of, memory_of, Agrees}
use Rattle.heap_calls.proofs.Filled.Unmade.{made-told, left-unmade}
use Rattle.heap_calls.proofs.Filled.Adding.{added-agrees, added-next, not-added}
use Rattle.heap_calls.proofs.Made.{made-agrees, filled-answer}
use Rattle.heap_calls.proofs.NewBlocks.NewHandles.{agrees-more}
use Rattle.heap_calls.proofs.filling.add_resource.Given.{Over}
use Rattle.heap_calls.proofs.filling.add_resource.Goals.{After-count}
use Rattle.heap_calls.proofs.filling.add_resource.Goals as goal

pub returns-in_err-made-clause-agrees : goal.returns-in_err-made-clause-agrees
returns-in_err-made-clause-agrees g c = agrees-more _ _ _ _ c.requires.agrees c.fill_block.ensures.nonrelocatable
    c.in_err-made.ensures.kept

-- the entries and the store agree
agrees : (g : Over) (c : After-count g) (o : Option ℕ) → c.in_ok-made.made.slot ≡ o
    → Agrees (g.S.BlockStore.zone c.fill_block.new.store) (g.S.BlockStore.rest c.fill_block.new.store)
    (entered o c.args.names.now.items)
agrees g c o is =
    let store = c.args.store.now in
    rw (← is) (made-agrees (g.S.BlockStore.zone store) (g.S.BlockStore.rest store) _ (g.met.S.BlockStore.masters store)
    c.requires.agrees (g.met.S.BlockStore.no_block store) (g.S.BlockStore.rest c.fill_block.new.store) _
    c.fill_block.ensures.nonrelocatable c.in_ok-made.made.slot c.in_ok-made.ensures.slot)

-- the answer, with no role as yet
plain : (g : Over) (c : After-count g) (o : Option ℕ) → c.in_ok-made.made.slot ≡ o
    → new_inside Plain c.args.flags c.args.bytes.now
    (memory_of (g.S.BlockStore.zone c.args.store.now) (g.S.BlockStore.rest c.args.store.now) c.args.names.now.items
    c.args.log.now) ≡ (
      number_of o c.args.names.now.items,
      memory_of (g.S.BlockStore.zone c.fill_block.new.store) (g.S.BlockStore.rest c.fill_block.new.store)
          (entered o c.args.names.now.items) c.count.new.self,
    )
plain g c o is =
    let store = c.args.store.now in
    let zone = g.S.BlockStore.zone store in
    let rest = g.S.BlockStore.rest store in
    let es = c.args.names.now.items in
    rw (← is, c.count.ensures) (filled-answer zone rest es (g.met.S.BlockStore.masters store) c.requires.agrees
    (g.met.S.BlockStore.no_block store) c.args.log.now (memory_of zone rest es c.args.log.now) refl
    (g.S.BlockStore.zone c.fill_block.new.store) (g.S.BlockStore.rest c.fill_block.new.store) c.in_ok-made.made.slot
    c.in_ok-made.made.searches c.args.flags c.args.bytes.now c.in_ok-made.ensures.slot c.in_ok-made.ensures.went)

pub returns-in_default-clause-agrees : goal.returns-in_default-clause-agrees
returns-in_default-clause-agrees g c =
    agrees g (goal.at.returns-in_default-clause-agrees g c).After-count None c.in_default.is

pub returns-in_default-clause-next : goal.returns-in_default-clause-next
returns-in_default-clause-next g c =
    not-added c.args.flags c.args.bytes.now (memory_of (g.S.BlockStore.zone c.args.store.now)
    (g.S.BlockStore.rest c.args.store.now) c.args.names.now.items c.args.log.now)
    (memory_of (g.S.BlockStore.zone c.fill_block.new.store) (g.S.BlockStore.rest c.fill_block.new.store)
    c.args.names.now.items c.count.new.self) (plain g (goal.at.returns-in_default-clause-next g c).After-count None
    c.in_default.is)

pub returns-clause-agrees : goal.returns-clause-agrees
returns-clause-agrees g c =
    let holds = agrees g (goal.at.returns-clause-agrees g c).After-count (Some c.in-Some.slot) c.in-Some.is in
    rw c.push_reserved.ensures.items
    (added-agrees (g.S.BlockStore.zone c.fill_block.new.store) (g.S.BlockStore.zone c.set_resource.new.self)
    (g.S.BlockStore.rest c.fill_block.new.store) (g.S.BlockStore.rest c.set_resource.new.self)
    c.args.names.now.items c.in-Some.slot holds c.set_resource.ensures.rest c.set_resource.ensures.zone)

pub returns-clause-next : goal.returns-clause-next
returns-clause-next g c =
    let before = (goal.at.returns-clause-next g c).After-count in
    let holds = agrees g before (Some c.in-Some.slot) c.in-Some.is in
    let e : c.len-number.result ≡ length c.args.names.now.items = search rules in
    rw (c.push_reserved.ensures.items, e)
    (added-next (g.S.BlockStore.zone c.fill_block.new.store) (g.S.BlockStore.zone c.set_resource.new.self)
    (g.S.BlockStore.rest c.fill_block.new.store) (g.S.BlockStore.rest c.set_resource.new.self)
    c.args.names.now.items c.in-Some.slot holds c.set_resource.ensures.rest c.set_resource.ensures.zone
    c.args.flags c.args.bytes.now (memory_of (g.S.BlockStore.zone c.args.store.now)
    (g.S.BlockStore.rest c.args.store.now) c.args.names.now.items c.args.log.now) c.count.new.self
    (plain g before (Some c.in-Some.slot) c.in-Some.is))

pub returns-in_err-made-clause-left : goal.returns-in_err-made-clause-left
returns-in_err-made-clause-left g c = on_err c.from_residual.result _ (elim c.in_err-made.ensures.left [
  | inl takes ↦ inl takes
  | inr left ↦ inr (left-unmade g.K.PurgeSink.told _ (g.S.BlockStore.zone c.args.store.now)
      (g.S.BlockStore.rest c.args.store.now) c.args.names.now.items c.deref.result.now c.args.log.now
      (g.met.S.BlockStore.masters c.args.store.now) refl c.requires.agrees c.deref.ensures.value c.args.sink.now
      c.fill_block.new.sink (g.S.BlockStore.zone c.fill_block.new.store) (g.S.BlockStore.rest c.fill_block.new.store)
      c.args.names.now.items refl left)
])

-- the sink was told of what is purged for the block
tells : (g : Over) (c : After-count g) → g.K.PurgeSink.listens c.args.sink.now ≡ true
    → Tells g.K.PurgeSink.told (purges_made (new_filled Resource c.args.flags c.args.bytes.now) (memory_of (g.S.BlockStore.zone c.args.store.now)
    (g.S.BlockStore.rest c.args.store.now) c.args.names.now.items c.args.log.now).heap) c.args.sink.now
    c.fill_block.new.sink
tells g c listens =
    made-told g.K.PurgeSink.told _ (g.S.BlockStore.zone c.args.store.now) (g.S.BlockStore.rest c.args.store.now)
    c.args.names.now.items c.deref.result.now c.args.log.now (g.met.S.BlockStore.masters c.args.store.now) refl
    c.requires.agrees c.deref.ensures.value c.args.sink.now c.fill_block.new.sink Resource c.args.flags c.args.bytes.now
    (c.in_ok-made.ensures.hears.tells refl listens)

pub returns-in_default-clause-told : goal.returns-in_default-clause-told
returns-in_default-clause-told g c = tells g (goal.at.returns-in_default-clause-told g c).After-count

pub returns-clause-told : goal.returns-clause-told
returns-clause-told g c = tells g (goal.at.returns-clause-told g c).After-count
