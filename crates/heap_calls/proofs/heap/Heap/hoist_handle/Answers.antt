use Rattle.heap_calls.proofs.Cited.{◌≡◌, refl, true, false, Ok, Some, None, sym, ◌∙◌, ap, arith, slice_get, is_relocatable, is_mover, tidy}
use Rattle.heap_calls.proofs.Cited.{has, high, with_run, seen_mover}
use Rattle.heap_calls.specs.declared.anchor.Anchor.TheVariants.{Handle}
use Rattle.heap_calls.proofs.Numbering.Changing.{agrees-placed, none_placed, once_placed}
use Rattle.heap_calls.proofs.Room.Searching.{at_run}
use Rattle.heap_calls.proofs.Room.Staying.{nonrelocatable-run, nonrelocatable-same, nonrelocatable-then, none-high}
use Rattle.heap_calls.proofs.Numbering.Hoisting.{seen-at, seen_mover-is, rest-same, run-found, hoist-allowed}
use Rattle.heap_calls.proofs.Numbering.Hoisting.{hoisted-done, hoisted-none, move_h_hi-emptied, move_h_hi-locked}
use Rattle.heap_calls.proofs.Numbering.Hoisting.{move_h_hi-done}
use Rattle.heap_calls.proofs.NewBlocks.CopiedHandles.{slot-in}
use Rattle.heap_calls.proofs.Numbering.Memories.{memory_as}
use Rattle.heap_calls.proofs.heap.Heap.hoist_handle.Given.{Over}
use Rattle.heap_calls.proofs.heap.Heap.hoist_handle.Goals.{In_ok-found, After-can_move}
use Rattle.heap_calls.proofs.heap.Heap.hoist_handle.Goals as goal

entry : (g : Over) (c : In_ok-found g) → (c.args.handle ≡ Some c.in_ok-found.found.number)
    × (slice_get c.self.inside.names.items c.in_ok-found.found.number
    ≡ Some (Handle c.in_ok-found.found.slot c.in_ok-found.found.guarded))
entry g c = slot-in c.self.inside.names.items c.deref.result.now c.args.handle c.in_ok-found.found c.deref.ensures.value
    (sym c.slot_of.ensures ∙ c.in_ok-found.was)

-- whether its block can move
mover : (g : Over) (c : After-can_move g) → is_mover c.in-Some.ensures.0.here ≡ c.can_move.result
mover g c =
    let there = c.in-Some.ensures in
    sym (seen_mover-is there.0.here) ∙ sym (seen-at seen_mover c.in-Some.place (g.S.BlockStore.zone c.self.inside.store)
    there.0 c.block_at.result there.2 c.block_at.ensures) ∙ sym c.can_move.ensures

pub returns-in_default-clause-answer : goal.returns-in_default-clause-answer
returns-in_default-clause-answer g c =
    let a = c.self.inside in
    let zone = g.S.BlockStore.zone a.store in
    let rest = g.S.BlockStore.rest a.store in
    let es = a.names.items in
    let f = c.in_ok-found.found in
    let is = entry g (goal.at.returns-in_default-clause-answer g c).In_ok-found in
    move_h_hi-emptied c.args.self.now.memory zone rest es a.log c.args.handle f.number f.slot (memory_as c.self.view_is)
    is.0 is.1
    c.self.invariant.apart (omega arith) c.in_default.ensures

pub returns-then-not-can_move-clause-answer : goal.returns-then-not-can_move-clause-answer
returns-then-not-can_move-clause-answer g c =
    let a = c.self.inside in
    let zone = g.S.BlockStore.zone a.store in
    let rest = g.S.BlockStore.rest a.store in
    let es = a.names.items in
    let f = c.in_ok-found.found in
    let is = entry g (goal.at.returns-then-not-can_move-clause-answer g c).In_ok-found in
    let there = c.in-Some.ensures in
    let locked : is_mover there.0.here ≡ false = mover g
    (goal.at.returns-then-not-can_move-clause-answer g c).After-can_move ∙ c.if-not-can_move.true in
    move_h_hi-locked c.args.self.now.memory zone rest es a.log c.args.handle f.number f.slot (memory_as c.self.view_is)
    is.0 is.1
    c.self.invariant.apart (omega arith) there.0 there.1 locked

pub returns-in_default-run_of-clause-answer : goal.returns-in_default-run_of-clause-answer
returns-in_default-run_of-clause-answer g c =
    let a = c.self.inside in
    let zone = g.S.BlockStore.zone a.store in
    let rest = g.S.BlockStore.rest a.store in
    let es = a.names.items in
    let f = c.in_ok-found.found in
    let is = entry g (goal.at.returns-in_default-run_of-clause-answer g c).In_ok-found in
    let there = c.in-Some.ensures in
    let free : is_mover there.0.here ≡ true = mover g (goal.at.returns-in_default-run_of-clause-answer g
    c).After-can_move ∙ c.if-not-can_move.false in
    let none = run-found (has (is_relocatable f.slot)) zone None
    c.in_default-run_of.ensures in
    move_h_hi-done c.args.self.now.memory zone rest es a.log c.args.handle f.number f.slot (memory_as c.self.view_is)
    is.0 is.1
    c.self.invariant.apart (omega arith) zone rest there.0 there.1 free (none_placed rest rest (rest-same rest))
    (hoisted-none f.slot zone none)
    ∙ ap (λ m. (Ok tt, m)) (memory_as c.self.view_is)

pub hoist-requires : goal.hoist-requires
hoist-requires g c =
    let zone = g.S.BlockStore.zone c.self.inside.store in
    let slot = c.in_ok-found.found.slot in
    hoist-allowed (is_relocatable slot) c.in-Some-run_of.run' zone
    (run-found (has (is_relocatable slot)) zone (Some c.in-Some-run_of.run')
    c.in-Some-run_of.ensures)

pub invariant_of-self : goal.invariant_of-self
invariant_of-self g c =
    let a = c.self.inside in
    let zone = g.S.BlockStore.zone a.store in
    let zone' = g.S.BlockStore.zone c.hoist.new.self in
    let slot = c.in_ok-found.found.slot in
    let run = c.in-Some-run_of.run' in
    let found = run-found (has (is_relocatable slot)) zone (Some run)
    c.in-Some-run_of.ensures in
    let now = tidy (with_run (high (is_relocatable slot)) found.0) in
    let done = at_run run zone zone found.0 (λ r. zone' ≡ tidy (with_run (high (is_relocatable slot)) r)) refl found.2
    c.hoist.ensures.zone in
    agrees-placed zone zone' (g.S.BlockStore.rest a.store) (g.S.BlockStore.rest c.hoist.new.self) a.names.items
    c.self.invariant
    (nonrelocatable-then zone now zone' (nonrelocatable-run (high (is_relocatable slot)) (none-high (is_relocatable slot))
    (has (is_relocatable slot)) zone found.0 found.1) (nonrelocatable-same now zone' done))
    (once_placed 1 (g.S.BlockStore.rest a.store) (g.S.BlockStore.rest c.hoist.new.self) c.hoist.ensures.rest)

pub returns-clause-answer : goal.returns-clause-answer
returns-clause-answer g c =
    let a = c.self.inside in
    let zone = g.S.BlockStore.zone a.store in
    let zone' = g.S.BlockStore.zone c.hoist.new.self in
    let rest = g.S.BlockStore.rest a.store in
    let es = a.names.items in
    let f = c.in_ok-found.found in
    let is = entry g (goal.at.returns-clause-answer g c).In_ok-found in
    let there = c.in-Some.ensures in
    let free : is_mover there.0.here ≡ true = mover g (goal.at.returns-clause-answer g c).After-can_move
    ∙ c.if-not-can_move.false in
    let found = run-found (has (is_relocatable f.slot)) zone (Some c.in-Some-run_of.run')
    c.in-Some-run_of.ensures in
    move_h_hi-done c.args.self.now.memory zone rest es a.log c.args.handle f.number f.slot (memory_as c.self.view_is)
    is.0 is.1
    c.self.invariant.apart (omega arith) zone' (g.S.BlockStore.rest c.hoist.new.self) there.0 there.1 free
    (once_placed 1 rest (g.S.BlockStore.rest c.hoist.new.self) c.hoist.ensures.rest)
    (hoisted-done f.slot c.in-Some-run_of.run' zone zone' found c.hoist.ensures.zone)
