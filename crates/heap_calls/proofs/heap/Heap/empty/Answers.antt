use Rattle.heap_calls.proofs.Cited.{Ok, err_from_is_err_and, tidy, is_relocatable, freed}
use Rattle.heap_calls.proofs.Numbering.Loosening.{loose_in, not_emptied, empty_handle-done}
use Rattle.heap_calls.proofs.Numbering.Changing.{agrees-same}
use Rattle.heap_calls.proofs.Room.Staying.{nonrelocatable-released, nonrelocatable-same, nonrelocatable-then}
use Rattle.heap_calls.proofs.Numbering.Reserved.{fits-same}
use Rattle.heap_calls.proofs.Numbering.Memories.{memory_as}
use Rattle.heap_calls.proofs.heap.Heap.empty.Goals as goal

pub returns-in_err-slot-clause-answer : goal.returns-in_err-slot-clause-answer
returns-in_err-slot-clause-answer g c =
    let p = err_from_is_err_and c.from_residual.result c.from_residual.ensures.1 in
    let a = c.self.inside in
    rw (p.1, p.2) (not_emptied c.args.handle c.in_err-slot.field-0.0 (g.S.BlockStore.zone a.store)
    (g.S.BlockStore.rest a.store) a.names.items _ a.log c.args.self.now.memory (g.met.S.BlockStore.tidied a.store)
    (memory_as c.self.view_is) c.deref.ensures.value c.in_err-slot.ensures)

pub returns-clause-answer : goal.returns-clause-answer
returns-clause-answer g c =
    let a = c.self.inside in
    let zone = g.S.BlockStore.zone a.store in
    let rest = g.S.BlockStore.rest a.store in
    let found = loose_in zone rest.slots a.names.items _ c.args.handle (Ok c.in_ok-slot.slot) c.deref.ensures.value
    c.in_ok-slot.ensures in
    empty_handle-done c.args.self.now.memory zone (g.S.BlockStore.zone c.release.new.self) rest
    (g.S.BlockStore.rest c.release.new.self) a.names.items a.log c.args.handle found.0 c.in_ok-slot.slot
    (memory_as c.self.view_is) found.2 found.3 c.self.invariant.apart found.4
    (g.met.S.BlockStore.tidied a.store) c.release.ensures.rest c.release.ensures.zone

pub invariant_of-self : goal.invariant_of-self
invariant_of-self g c =
    let a = c.self.inside in
    let zone = g.S.BlockStore.zone a.store in
    let zone' = g.S.BlockStore.zone c.release.new.self in
    let left = tidy (freed (is_relocatable c.in_ok-slot.slot) zone) in
    agrees-same zone zone' (g.S.BlockStore.rest a.store) (g.S.BlockStore.rest c.release.new.self) a.names.items
    c.self.invariant
    (nonrelocatable-then zone left zone' (nonrelocatable-released c.in_ok-slot.slot zone)
    (nonrelocatable-same left zone' c.release.ensures.zone)) c.release.ensures.rest

pub same-self : goal.same-self
same-self g c = fits-same _ _
