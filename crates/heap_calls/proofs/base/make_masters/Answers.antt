use Rattle.heap_calls.proofs.Cited.{rules, ap, ◌∙◌, refl, Masters, is_nonrelocatable, has}
use Rattle.heap_calls.proofs.Hearing.{hears-as}
use Rattle.heap_calls.proofs.Numbering.Changing.{nonrelocatable-carved}
use Rattle.heap_calls.proofs.NewBlocks.NewSlots.{room-at, went-filled, went-unfilled, gains-some, gains-none}
use Rattle.heap_calls.proofs.base.make_masters.Goals as goal

pub add_masters-requires : goal.add_masters-requires
add_masters-requires g c =
    room-at 272 c.in_ok-room.room.place c.in-Some.place (g.S.BlockStore.zone c.make_base.new.store) c.in-Some.is
    c.in_ok-room.ensures.room

pub returns-in_ok-add_masters-clause-went : goal.returns-in_ok-add_masters-clause-went
returns-in_ok-add_masters-clause-went g c =
    went-filled Masters c.in_ok-room.room.place (g.S.BlockStore.zone c.make_base.new.store)
    (c.in_ok-room.ensures.went Masters refl) 272 c.in-Some.place c.in-Some.is c.in_ok-room.ensures.room
    (g.S.BlockStore.zone c.add_masters.new.self) c.in_ok-add_masters.ensures.ok
    (g.S.BlockStore.rest c.add_masters.new.self) c.add_masters.ensures.moves

pub returns-in_default-clause-went : goal.returns-in_default-clause-went
returns-in_default-clause-went g c =
    went-unfilled Masters c.in_ok-room.room.place (g.S.BlockStore.zone c.make_base.new.store) (c.in_ok-room.ensures.went
    Masters refl) c.in_default.is

pub returns-in_ok-add_masters-clause-slots : goal.returns-in_ok-add_masters-clause-slots
returns-in_ok-add_masters-clause-slots g c =
    let now = c.in_ok-add_masters.ensures in
    gains-some (g.S.BlockStore.rest c.args.store.now) (g.S.BlockStore.rest c.make_base.new.store)
    (g.S.BlockStore.rest c.add_masters.new.self) c.in_ok-room.room.place c.in-Some.place c.in-Some.is
    c.in_ok-room.ensures.rest now.unused now.all now.slots now.window

pub returns-in_default-clause-slots : goal.returns-in_default-clause-slots
returns-in_default-clause-slots g c =
    gains-none (g.S.BlockStore.rest c.args.store.now) (g.S.BlockStore.rest c.make_base.new.store)
    c.in_ok-room.room.place c.in_default.is c.in_ok-room.ensures.rest

pub returns-in_err-add_masters-clause-nonrelocatable : goal.returns-in_err-add_masters-clause-nonrelocatable
returns-in_err-add_masters-clause-nonrelocatable g c place =
    ap (has (is_nonrelocatable place)) c.in_err-add_masters.ensures.err ∙ c.make_base.ensures.nonrelocatable place

pub returns-in_ok-add_masters-clause-nonrelocatable : goal.returns-in_ok-add_masters-clause-nonrelocatable
returns-in_ok-add_masters-clause-nonrelocatable g c place =
    nonrelocatable-carved c.in-Some.place 272 (g.S.BlockStore.zone c.make_base.new.store)
    (g.S.BlockStore.zone c.add_masters.new.self) Masters (λ p. refl)
    (room-at 272 c.in_ok-room.room.place c.in-Some.place (g.S.BlockStore.zone c.make_base.new.store) c.in-Some.is
    c.in_ok-room.ensures.room)
    c.in_ok-add_masters.ensures.ok place ∙ c.make_base.ensures.nonrelocatable place

pub returns-in_err-room-clause-hears : goal.returns-in_err-room-clause-hears
returns-in_err-room-clause-hears g c =
    hears-as g.K.PurgeSink.told g.K.PurgeSink.waits g.K.PurgeSink.listens _ _ _ _ c.args.sink.now
    c.make_base.new.sink (λ done. search rules) refl (c.make_base.ensures.hears Masters refl)

pub returns-in_err-add_masters-clause-hears : goal.returns-in_err-add_masters-clause-hears
returns-in_err-add_masters-clause-hears g c =
    hears-as g.K.PurgeSink.told g.K.PurgeSink.waits g.K.PurgeSink.listens _ _ _ _ c.args.sink.now
    c.make_base.new.sink (λ done. search rules) refl (c.make_base.ensures.hears Masters refl)
