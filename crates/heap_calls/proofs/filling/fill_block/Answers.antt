use Rattle.heap_calls.proofs.Cited.{◌≡◌, refl, true, length, nothing, told_along, seek_new, fresh_block, some_left, IsFresh, Hears, Nothing}
use Rattle.heap_calls.proofs.Hearing.{hears-as}
use Rattle.heap_calls.proofs.NewBlocks.NewSlots.{has-kept}
use Rattle.heap_calls.proofs.NewBlocks.Placing.{fresh-sized, told-sized, not-filled, is-filled}
use Rattle.heap_calls.proofs.NewBlocks.Seeking.{seek_made}
use Rattle.heap_calls.proofs.Room.Staying.{nonrelocatable-then}
use Rattle.heap_calls.proofs.filling.fill_block.Given.{Over}
use Rattle.heap_calls.proofs.filling.fill_block.Goals.{In_ok-made, In-Some}
use Rattle.heap_calls.proofs.filling.fill_block.Goals as goal

-- the block that was made
fresh : (g : Over) (c : In-Some g)
    → IsFresh c.in-Some.slot (length c.args.bytes.now) (g.S.BlockStore.zone c.new_block.new.store)
fresh g c =
    fresh-sized c.size_of-size.result c.args.bytes.now c.size_of-size.ensures (g.S.BlockStore.zone c.new_block.new.store)
    c.in_ok-made.made.slot c.in-Some.slot c.in-Some.is c.in_ok-made.ensures.fresh c.in_ok-made.ensures.fits

pub fill_new-requires : goal.fill_new-requires
fill_new-requires g c = fresh g (goal.at.fill_new-requires g c).In-Some

pub returns-in_default-clause-went : goal.returns-in_default-clause-went
returns-in_default-clause-went g c =
    not-filled c.size_of-size.result c.args.bytes.now c.size_of-size.ensures nothing
    (λ t new. seek_made nothing (some_left (g.S.BlockStore.rest c.args.store.now).unused) new t)
    (g.S.BlockStore.zone c.args.store.now) (λ a b. refl) (g.S.BlockStore.zone c.new_block.new.store) c.args.flags
    (g.S.BlockStore.rest c.args.store.now) (g.S.BlockStore.rest c.new_block.new.store) c.in_ok-made.made
    c.in_ok-made.ensures.went c.in_default.is

pub returns-clause-went : goal.returns-clause-went
returns-clause-went g c =
    is-filled c.size_of-size.result c.args.bytes.now c.size_of-size.ensures nothing
    (λ t new. seek_made nothing (some_left (g.S.BlockStore.rest c.args.store.now).unused) new t)
    (g.S.BlockStore.zone c.args.store.now) (λ a b. refl) (g.S.BlockStore.zone c.new_block.new.store) c.args.flags
    (g.S.BlockStore.rest c.args.store.now) (g.S.BlockStore.rest c.new_block.new.store) c.in_ok-made.made
    c.in_ok-made.ensures.went c.in-Some.slot c.in-Some.is (fresh g (goal.at.returns-clause-went g c).In-Some)
    (g.met.S.BlockStore.once c.new_block.new.store c.in-Some.slot) (g.S.BlockStore.zone c.fill_new.new.store)
    (g.S.BlockStore.rest c.fill_new.new.store) c.fill_new.ensures.zone c.fill_new.ensures.rest.moves

pub returns-clause-slot : goal.returns-clause-slot
returns-clause-slot g c =
    has-kept c.in_ok-made.made.slot (g.S.BlockStore.rest c.args.store.now) (g.S.BlockStore.rest c.new_block.new.store)
    (g.S.BlockStore.rest c.fill_new.new.store) c.in_ok-made.ensures.slot c.fill_new.ensures.rest

pub returns-clause-nonrelocatable : goal.returns-clause-nonrelocatable
returns-clause-nonrelocatable g c =
    nonrelocatable-then (g.S.BlockStore.zone c.args.store.now) (g.S.BlockStore.zone c.new_block.new.store)
    (g.S.BlockStore.zone c.fill_new.new.store) c.new_block.ensures.nonrelocatable c.fill_new.ensures.nonrelocatable

-- what the sink hears
heard : (g : Over) (c : In_ok-made g) → Hears g.K.PurgeSink.told g.K.PurgeSink.waits g.K.PurgeSink.listens (true ≡ true)
    (told_along c.args.names.now nothing (seek_new Nothing (g.S.BlockStore.rest c.args.store.now).unused
    (length c.args.bytes.now) (fresh_block 0 (length c.args.bytes.now)) (g.S.BlockStore.zone c.args.store.now))
    (g.S.BlockStore.zone c.args.store.now)) c.args.sink.now c.new_block.new.sink
heard g c =
    hears-as g.K.PurgeSink.told g.K.PurgeSink.waits g.K.PurgeSink.listens _ _ _ _ _ _ (λ some. refl)
    (told-sized c.size_of-size.result c.args.bytes.now c.size_of-size.ensures nothing
    (λ t new. seek_made nothing (some_left (g.S.BlockStore.rest c.args.store.now).unused) new t)
    (g.S.BlockStore.zone c.args.store.now) (λ a b. refl) c.args.names.now) c.in_ok-made.ensures.hears

pub returns-in_default-clause-hears : goal.returns-in_default-clause-hears
returns-in_default-clause-hears g c = heard g (goal.at.returns-in_default-clause-hears g c).In_ok-made

pub returns-clause-hears : goal.returns-clause-hears
returns-clause-hears g c = heard g (goal.at.returns-clause-hears g c).In_ok-made
