use Rattle.heap_calls.proofs.Cited.{◌≡◌, refl, true, length, nothing, told_along, seek_block, seek, cond, no_room, Put, fresh_block, IsFresh}
use Rattle.heap_calls.proofs.Cited.{Hears, Nothing, MakesBlock}
use Rattle.heap_calls.proofs.Hearing.{hears-as}
use Rattle.heap_calls.proofs.NewBlocks.Placing.{makes-whole, makes-slot, fresh-sized, told-sized, not-filled, is-filled}
use Rattle.heap_calls.proofs.Room.Staying.{nonrelocatable-then}
use Rattle.heap_calls.proofs.filling.refill_block.Given.{Over}
use Rattle.heap_calls.proofs.filling.refill_block.Goals.{In_ok-made, In-Some}
use Rattle.heap_calls.proofs.filling.refill_block.Goals as goal

-- the block that was made
makes : (g : Over) (c : In_ok-made g) → MakesBlock nothing c.size_of-size.result (seek_block Nothing c.size_of-size.result)
    (g.S.BlockStore.zone c.args.store.now) c.in_ok-made.made (g.S.BlockStore.zone c.put_block.new.store)
    (g.S.BlockStore.rest c.args.store.now) (g.S.BlockStore.rest c.put_block.new.store)
makes g c =
    let zone1 = g.S.BlockStore.zone c.put_block.new.store in
    let rest1 = g.S.BlockStore.rest c.put_block.new.store in
    makes-whole Nothing (λ b. refl) c.size_of-size.result c.args.slot (g.S.BlockStore.zone c.args.store.now) zone1 zone1
    (g.S.BlockStore.rest c.args.store.now) rest1 rest1 c.in_ok-made.made c.in_ok-made.ensures.went c.in_ok-made.ensures.slot
    refl refl

fresh : (g : Over) (c : In-Some g)
    → IsFresh c.in-Some.filled (length c.args.bytes.now) (g.S.BlockStore.zone c.put_block.new.store)
fresh g c =
    fresh-sized c.size_of-size.result c.args.bytes.now c.size_of-size.ensures (g.S.BlockStore.zone c.put_block.new.store)
    c.in_ok-made.made.slot c.in-Some.filled c.in-Some.is c.in_ok-made.ensures.fresh c.in_ok-made.ensures.fits

pub fill_new-requires : goal.fill_new-requires
fill_new-requires g c = fresh g (goal.at.fill_new-requires g c).In-Some

pub returns-in_default-clause-went : goal.returns-in_default-clause-went
returns-in_default-clause-went g c =
    let zone = g.S.BlockStore.zone c.args.store.now in
    makes-slot Nothing (length c.args.bytes.now) c.args.slot c.args.flags c.args.bytes.now zone _ c.in_ok-made.made.slot
    c.in_ok-made.ensures.slot (not-filled c.size_of-size.result c.args.bytes.now c.size_of-size.ensures nothing
    (λ t new z. cond t (seek (Put new) nothing z) no_room) zone (λ a b. refl) (g.S.BlockStore.zone c.put_block.new.store)
    c.args.flags (g.S.BlockStore.rest c.args.store.now) (g.S.BlockStore.rest c.put_block.new.store) c.in_ok-made.made
    (makes g (goal.at.returns-in_default-clause-went g c).In_ok-made) c.in_default.is)

pub returns-clause-went : goal.returns-clause-went
returns-clause-went g c =
    let at = goal.at.returns-clause-went g c in
    let zone = g.S.BlockStore.zone c.args.store.now in
    makes-slot Nothing (length c.args.bytes.now) c.args.slot c.args.flags c.args.bytes.now zone _ c.in_ok-made.made.slot
    c.in_ok-made.ensures.slot (is-filled c.size_of-size.result c.args.bytes.now c.size_of-size.ensures nothing
    (λ t new z. cond t (seek (Put new) nothing z) no_room) zone (λ a b. refl) (g.S.BlockStore.zone c.put_block.new.store)
    c.args.flags (g.S.BlockStore.rest c.args.store.now) (g.S.BlockStore.rest c.put_block.new.store) c.in_ok-made.made
    (makes g at.In_ok-made) c.in-Some.filled c.in-Some.is (fresh g at.In-Some)
    (g.met.S.BlockStore.once c.put_block.new.store c.in-Some.filled) (g.S.BlockStore.zone c.fill_new.new.store)
    (g.S.BlockStore.rest c.fill_new.new.store) c.fill_new.ensures.zone c.fill_new.ensures.rest.moves)

pub returns-clause-nonrelocatable : goal.returns-clause-nonrelocatable
returns-clause-nonrelocatable g c =
    nonrelocatable-then (g.S.BlockStore.zone c.args.store.now) (g.S.BlockStore.zone c.put_block.new.store)
    (g.S.BlockStore.zone c.fill_new.new.store) c.put_block.ensures.nonrelocatable c.fill_new.ensures.nonrelocatable

-- what the sink hears
heard : (g : Over) (c : In_ok-made g) → Hears g.K.PurgeSink.told g.K.PurgeSink.waits g.K.PurgeSink.listens (true ≡ true)
    (told_along c.args.names.now nothing (seek_block Nothing (length c.args.bytes.now) (fresh_block 0 (length c.args.bytes.now))
    (g.S.BlockStore.zone c.args.store.now)) (g.S.BlockStore.zone c.args.store.now)) c.args.sink.now c.put_block.new.sink
heard g c =
    hears-as g.K.PurgeSink.told g.K.PurgeSink.waits g.K.PurgeSink.listens _ _ _ _ _ _ (λ some. refl)
    (told-sized c.size_of-size.result c.args.bytes.now c.size_of-size.ensures nothing
    (λ t new z. cond t (seek (Put new) nothing z) no_room) (g.S.BlockStore.zone c.args.store.now) (λ a b. refl)
    c.args.names.now) c.in_ok-made.ensures.hears

pub returns-in_default-clause-hears : goal.returns-in_default-clause-hears
returns-in_default-clause-hears g c = heard g (goal.at.returns-in_default-clause-hears g c).In_ok-made

pub returns-clause-hears : goal.returns-clause-hears
returns-clause-hears g c = heard g (goal.at.returns-clause-hears g c).In_ok-made
