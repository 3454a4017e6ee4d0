use Rattle.heap_calls.proofs.Cited.{◌≡◌, ◌∷◌, ◌++◌, Ok, Err, Some, None, sym, ◌∙◌, ap, unwrap_or, err_from_is_err_and, Flags, seen}
use Rattle.heap_calls.proofs.Cited.{with_flags, flagged, seen_flags, flags_with}
use Rattle.heap_calls.proofs.Numbering.Answering.{refused_for, found_in, at_place}
use Rattle.heap_calls.proofs.Numbering.Changing.{spot_at-is, nonrelocatable-at, agrees-same}
use Rattle.heap_calls.proofs.Room.Staying.{nonrelocatable-spot, alike-flags, nonrelocatable-same, nonrelocatable-then}
use Rattle.heap_calls.proofs.Numbering.Hoisting.{flags-none, flags-some, seen-at, rest-same, change_flags-done}
use Rattle.heap_calls.proofs.Numbering.Reserved.{fits-same}
use Rattle.heap_calls.proofs.Numbering.Memories.{memory_as}
use Rattle.heap_calls.proofs.heap.Heap.set_flags.Goals as goal

pub returns-in_err-place-clause-answer : goal.returns-in_err-place-clause-answer
returns-in_err-place-clause-answer g c =
    let p = err_from_is_err_and c.from_residual.result c.from_residual.ensures.1 in
    let a = c.self.inside in
    let found = found_in (g.S.BlockStore.zone a.store) (g.S.BlockStore.rest a.store).slots a.names.items _ c.args.handle
    (Err c.in_err-place.field-0.0) c.deref.ensures.value c.in_err-place.ensures in
    rw (p.1, p.2) (refused_for c.in_err-place.field-0.0 (g.S.BlockStore.zone a.store) (g.S.BlockStore.rest a.store)
    a.names.items a.log c.args.handle c.args.self.now.memory (memory_as c.self.view_is) found (λ s k. (
      Ok tt,
      record s {
        zone = k.at.below ++ flagged (flags_with c.args.locked c.args.purgeable) k.at.here ∷ k.at.above;
      },
    )))

pub returns-in_default-clause-answer : goal.returns-in_default-clause-answer
returns-in_default-clause-answer g c =
    let a = c.self.inside in
    let zone = g.S.BlockStore.zone a.store in
    let rest = g.S.BlockStore.rest a.store in
    let change : Flags → Flags = flags_with c.args.locked c.args.purgeable in
    let found = found_in zone rest.slots a.names.items _ c.args.handle (Ok c.in_ok-place.place) c.deref.ensures.value
    c.in_ok-place.ensures in
    let none : seen_flags (Some (seen found.1.here)) ≡ None =
    sym (seen-at seen_flags c.in_ok-place.place zone found.1 c.block_at.result found.3 c.block_at.ensures)
    ∙ sym c.flags_of.ensures ∙ c.in_default.is in
    change_flags-done change c.args.self.now.memory zone zone rest rest a.names.items a.log c.args.handle found.0
    found.1
    (memory_as c.self.view_is) found.2 (rest-same rest)
    (spot_at-is c.in_ok-place.place zone found.1 found.3 ∙ ap (λ b. found.1.below ++ b ∷ found.1.above)
    (sym (flags-none change found.1.here none)))
    ∙ ap (λ m. (Ok tt, m)) (memory_as c.self.view_is)

pub returns-clause-answer : goal.returns-clause-answer
returns-clause-answer g c =
    let a = c.self.inside in
    let zone = g.S.BlockStore.zone a.store in
    let rest = g.S.BlockStore.rest a.store in
    let zone' = g.S.BlockStore.zone c.set_flags.new.self in
    let change : Flags → Flags = flags_with c.args.locked c.args.purgeable in
    let found = found_in zone rest.slots a.names.items _ c.args.handle (Ok c.in_ok-place.place) c.deref.ensures.value
    c.in_ok-place.ensures in
    let flags : seen_flags (Some (seen found.1.here)) ≡ Some c.in-Some.flags =
    sym (seen-at seen_flags c.in_ok-place.place zone found.1 c.block_at.result found.3 c.block_at.ensures)
    ∙ sym c.flags_of.ensures ∙ c.in-Some.is in
    let first : Flags = record { locked = c.unwrap_or.result; purgeable = c.unwrap_or-2.result } in
    let same : first ≡ change c.in-Some.flags =
    ap (λ t. let f : Flags = record { locked = t; purgeable = c.unwrap_or-2.result } in f) c.unwrap_or.ensures
    ∙ ap (λ t. let f : Flags = record { locked = unwrap_or c.args.locked c.in-Some.flags.locked; purgeable = t }
    in f) c.unwrap_or-2.ensures in
    let done = at_place c.in_ok-place.place zone found.1 (λ s. zone' ≡ s.below ++ with_flags first s.here ∷ s.above)
    found.3 c.set_flags.ensures.zone in
    change_flags-done change c.args.self.now.memory zone zone' rest (g.S.BlockStore.rest c.set_flags.new.self)
    a.names.items
    a.log c.args.handle found.0 found.1 (memory_as c.self.view_is) found.2 c.set_flags.ensures.rest
    (done ∙ ap (λ f. found.1.below ++ with_flags f found.1.here ∷ found.1.above) same
    ∙ ap (λ b. found.1.below ++ b ∷ found.1.above) (flags-some change c.in-Some.flags found.1.here flags))

pub invariant_of-self : goal.invariant_of-self
invariant_of-self g c =
    let a = c.self.inside in
    let zone = g.S.BlockStore.zone a.store in
    let rest = g.S.BlockStore.rest a.store in
    let zone' = g.S.BlockStore.zone c.set_flags.new.self in
    let flags : Flags = record { locked = c.unwrap_or.result; purgeable = c.unwrap_or-2.result } in
    let found = found_in zone rest.slots a.names.items _ c.args.handle (Ok c.in_ok-place.place) c.deref.ensures.value
    c.in_ok-place.ensures in
    let s = found.1 in
    let now = s.below ++ with_flags flags s.here ∷ s.above in
    let done = at_place c.in_ok-place.place zone s (λ s. zone' ≡ s.below ++ with_flags flags s.here ∷ s.above) found.3
    c.set_flags.ensures.zone in
    agrees-same zone zone' rest (g.S.BlockStore.rest c.set_flags.new.self) a.names.items c.self.invariant
    (nonrelocatable-then zone now zone' (nonrelocatable-at c.in_ok-place.place zone now s found.3
    (nonrelocatable-spot s.below s.above s.here (with_flags flags s.here) (alike-flags flags s.here)))
    (nonrelocatable-same now zone' done)) c.set_flags.ensures.rest

pub same-self : goal.same-self
same-self g c = fits-same _ _

pub same-self-in_default : goal.same-self-in_default
same-self-in_default g c = fits-same _ _
