use Rattle.heap_calls.proofs.Cited.{ap, sym, ◌∙◌, refl, true, false, is_some, is_nonrelocatable, has}
use Rattle.heap_calls.proofs.NewBlocks.NewSlots.{went-slot}
use Rattle.heap_calls.proofs.base.make_slot.Goals as goal

pub returns-in_err-room-clause-nonrelocatable : goal.returns-in_err-room-clause-nonrelocatable
returns-in_err-room-clause-nonrelocatable g c place = c.make_masters.ensures.nonrelocatable place
    ∙ ap (has (is_nonrelocatable place)) c.take_slot.ensures.zone

pub returns-clause-nonrelocatable : goal.returns-clause-nonrelocatable
returns-clause-nonrelocatable g c place = ap (has (is_nonrelocatable place)) c.take_slot-2.ensures.zone
    ∙ c.make_masters.ensures.nonrelocatable place ∙ ap (has (is_nonrelocatable place)) c.take_slot.ensures.zone

pub returns-in_default-place-clause-went : goal.returns-in_default-place-clause-went
returns-in_default-place-clause-went g c =
    let before = c.in_default.ensures in
    went-slot c.args.sparing (g.S.BlockStore.zone c.args.store.now) (g.S.BlockStore.zone c.take_slot.new.self)
    (g.S.BlockStore.zone c.make_masters.new.store) (g.S.BlockStore.zone c.make_masters.new.store)
    (g.S.BlockStore.rest c.args.store.now) (g.S.BlockStore.rest c.take_slot.new.self)
    (g.S.BlockStore.rest c.make_masters.new.store) (g.S.BlockStore.rest c.make_masters.new.store)
    (is_some c.in_ok-room.room.place) false c.in_ok-room.room.searches before.none before.zone before.same.moves
    (sym (ap is_some c.in_default-place.is)) c.in_ok-room.ensures.went refl refl

pub returns-clause-went : goal.returns-clause-went
returns-clause-went g c =
    let before = c.in_default.ensures in
    let taken = c.in-Some-take_slot.ensures in
    went-slot c.args.sparing (g.S.BlockStore.zone c.args.store.now) (g.S.BlockStore.zone c.take_slot.new.self)
    (g.S.BlockStore.zone c.make_masters.new.store) (g.S.BlockStore.zone c.take_slot-2.new.self)
    (g.S.BlockStore.rest c.args.store.now) (g.S.BlockStore.rest c.take_slot.new.self)
    (g.S.BlockStore.rest c.make_masters.new.store) (g.S.BlockStore.rest c.take_slot-2.new.self)
    (is_some c.in_ok-room.room.place) true c.in_ok-room.room.searches before.none before.zone before.same.moves
    (sym (ap is_some c.in-Some-place.is)) c.in_ok-room.ensures.went taken.zone taken.rest.moves
