use Rattle.heap_calls.proofs.Cited.{◌≡◌, ◌∙◌, ap, refl, has, is_relocatable, is_nonrelocatable, spared, seek_block, told_along, fresh_block}
use Rattle.heap_calls.proofs.Cited.{Hears, true}
use Rattle.heap_calls.proofs.Hearing.{hears-as}
use Rattle.heap_calls.proofs.NewBlocks.Placing.{makes-whole}
use Rattle.heap_calls.proofs.Sizes.Growth.{opened-whole}
use Rattle.heap_calls.proofs.new_block.add_block.Given.{Over}
use Rattle.heap_calls.proofs.new_block.add_block.Goals.{In-Ok}
use Rattle.heap_calls.proofs.new_block.add_block.Goals as goal

pub put_block-requires-clause-none : goal.put_block-requires-clause-none
put_block-requires-clause-none g c = ap (has (is_relocatable c.args.slot))
    (opened-whole c.args.sparing c.requires.whole (g.S.BlockStore.zone c.args.store.now)) ∙ c.requires.none

pub returns-in-Err-clause-nonrelocatable : goal.returns-in-Err-clause-nonrelocatable
returns-in-Err-clause-nonrelocatable g c place = ap (has (is_nonrelocatable place)) c.give_slot.ensures.zone
    ∙ c.put_block.ensures.nonrelocatable place

pub returns-in_default-clause-went : goal.returns-in_default-clause-went
returns-in_default-clause-went g c =
    makes-whole c.args.sparing c.requires.whole c.args.size c.args.slot (g.S.BlockStore.zone c.args.store.now)
    (g.S.BlockStore.zone c.put_block.new.store) (g.S.BlockStore.zone c.give_slot-in_default.new.self)
    (g.S.BlockStore.rest c.args.store.now) (g.S.BlockStore.rest c.put_block.new.store)
    (g.S.BlockStore.rest c.give_slot-in_default.new.self) c.in-Ok.made c.in-Ok.ensures.went c.in-Ok.ensures.slot
    c.give_slot-in_default.ensures.zone c.give_slot-in_default.ensures.rest.moves

pub returns-clause-went : goal.returns-clause-went
returns-clause-went g c =
    let zone1 = g.S.BlockStore.zone c.put_block.new.store in
    let rest1 = g.S.BlockStore.rest c.put_block.new.store in
    makes-whole c.args.sparing c.requires.whole c.args.size c.args.slot (g.S.BlockStore.zone c.args.store.now) zone1 zone1
    (g.S.BlockStore.rest c.args.store.now) rest1 rest1 c.in-Ok.made c.in-Ok.ensures.went c.in-Ok.ensures.slot refl refl

-- what the sink hears
heard : (g : Over) (c : In-Ok g) → Hears g.K.PurgeSink.told g.K.PurgeSink.waits g.K.PurgeSink.listens (true ≡ true)
    (told_along c.args.names.now (spared c.args.sparing) (seek_block c.args.sparing c.args.size (fresh_block 0 c.args.size)
    (g.S.BlockStore.zone c.args.store.now)) (g.S.BlockStore.zone c.args.store.now)) c.args.sink.now c.put_block.new.sink
heard g c =
    hears-as g.K.PurgeSink.told g.K.PurgeSink.waits g.K.PurgeSink.listens _ _ _ _ _ _ (λ some. refl)
    (ap (λ z. told_along c.args.names.now (spared c.args.sparing)
    (seek_block c.args.sparing c.args.size (fresh_block 0 c.args.size) z) z)
    (opened-whole c.args.sparing c.requires.whole (g.S.BlockStore.zone c.args.store.now))) c.in-Ok.ensures.hears

pub returns-in_default-clause-hears : goal.returns-in_default-clause-hears
returns-in_default-clause-hears g c = heard g (goal.at.returns-in_default-clause-hears g c).In-Ok

pub returns-clause-hears : goal.returns-clause-hears
returns-clause-hears g c = heard g (goal.at.returns-clause-hears g c).In-Ok
