use Rattle.heap_calls.proofs.Cited.{sym, ◌∙◌, ap, is_relocatable, spared, Sought, told_along, seek_sized, seek_growth, seek_still, ◌≡◌}
use Rattle.heap_calls.proofs.Going.{went-as}
use Rattle.heap_calls.proofs.Hearing.{hears-as, hears-none}
use Rattle.heap_calls.proofs.Sizes.Resizing.{IsSized, handle-sized, lowest, movable, cut-went, cut-told, cut-nonrelocatable, grows, still}
use Rattle.heap_calls.proofs.Sizes.Resizing.{stays-is, moves-is}
use Rattle.heap_calls.proofs.sizing.resize_block.Given.{Over}
use Rattle.heap_calls.proofs.sizing.resize_block.Goals.{After-bytes_of, After-grow_in_place, After-grow_movable}
use Rattle.heap_calls.proofs.sizing.resize_block.Goals as goal

-- what is known of the block
sized : (g : Over) (c : After-bytes_of g) → IsSized (is_relocatable c.args.slot) c.args.place c.args.size c.in-Some.bytes
    c.bytes_of.result (g.S.BlockStore.zone c.args.store.now)
sized g c = handle-sized c.args.slot c.args.place c.args.size c.in-Some.bytes c.bytes_of.result
    (g.S.BlockStore.zone c.args.store.now) c.requires.found (sym c.phys.ensures ∙ c.in-Some.is) c.bytes_of.ensures

-- The block is cut.

pub returns-then-bytes-bytes_of-clause-nonrelocatable : goal.returns-then-bytes-bytes_of-clause-nonrelocatable
returns-then-bytes-bytes_of-clause-nonrelocatable g c =
    cut-nonrelocatable (sized g (goal.at.returns-then-bytes-bytes_of-clause-nonrelocatable g c).After-bytes_of)
    c.if-bytes-bytes_of.true (spared c.args.sparing) (g.S.BlockStore.zone c.resize.new.self) c.in_ok-resize.ensures.cut

pub returns-then-bytes-bytes_of-clause-went : goal.returns-then-bytes-bytes_of-clause-went
returns-then-bytes-bytes_of-clause-went g c =
    cut-went (sized g (goal.at.returns-then-bytes-bytes_of-clause-went g c).After-bytes_of) c.if-bytes-bytes_of.true
    (spared c.args.sparing) (g.S.BlockStore.zone c.resize.new.self) (g.S.BlockStore.rest c.args.store.now)
    (g.S.BlockStore.rest c.resize.new.self) c.in_ok-resize.ensures.cut c.resize.ensures.rest.moves

pub returns-then-bytes-bytes_of-clause-hears : goal.returns-then-bytes-bytes_of-clause-hears
returns-then-bytes-bytes_of-clause-hears g c =
    hears-none g.K.PurgeSink.told g.K.PurgeSink.waits g.K.PurgeSink.listens _ _ c.args.sink.now c.requires.idle
    (cut-told (sized g (goal.at.returns-then-bytes-bytes_of-clause-hears g c).After-bytes_of) c.if-bytes-bytes_of.true
    (spared c.args.sparing) c.args.names.now)

-- It grows, and may move.

may_move : (g : Over) (c : After-grow_movable g) → IsSized (is_relocatable c.args.slot) c.args.place c.args.size
    c.in-Some.bytes c.bytes_of.result (g.S.BlockStore.zone c.args.store.now) → seek_sized (is_relocatable c.args.slot)
    c.args.size (spared c.args.sparing) (g.S.BlockStore.zone c.args.store.now)
    ≡ seek_growth (is_relocatable c.args.slot) c.args.size (spared c.args.sparing) (g.S.BlockStore.zone c.args.store.now)
may_move g c k = moves-is k c.if-bytes-bytes_of.false
    (movable k c.block_at.result c.can_move.result c.block_at.ensures c.can_move.ensures ∙ c.if-can_move.true)
    (spared c.args.sparing)

pub returns-then-can_move-clause-went : goal.returns-then-can_move-clause-went
returns-then-can_move-clause-went g c =
    let at = goal.at.returns-then-can_move-clause-went g c in
    went-as c.grow_movable.result (spared c.args.sparing) (g.S.BlockStore.zone c.args.store.now)
    (g.S.BlockStore.zone c.grow_movable.new.store) (g.S.BlockStore.rest c.args.store.now)
    (g.S.BlockStore.rest c.grow_movable.new.store) _ _ (may_move g at.After-grow_movable (sized g at.After-bytes_of))
    c.grow_movable.ensures.went

pub returns-then-can_move-clause-hears : goal.returns-then-can_move-clause-hears
returns-then-can_move-clause-hears g c =
    let at = goal.at.returns-then-can_move-clause-hears g c in
    hears-as g.K.PurgeSink.told g.K.PurgeSink.waits g.K.PurgeSink.listens _ _ _ _ c.args.sink.now
    c.grow_movable.new.sink (λ done. done) (ap (λ (p : Sought). told_along c.args.names.now (spared c.args.sparing) p
    (g.S.BlockStore.zone c.args.store.now)) (sym (may_move g at.After-grow_movable (sized g at.After-bytes_of))))
    c.grow_movable.ensures.hears

-- It grows where it stands.

pub grow_in_place-requires-clause-still : goal.grow_in_place-requires-clause-still
grow_in_place-requires-clause-still g c =
    let k = sized g (goal.at.grow_in_place-requires-clause-still g c).After-bytes_of in
    still k c.if-bytes-bytes_of.false
    (movable k c.block_at.result c.can_move.result c.block_at.ensures c.can_move.ensures ∙ c.if-can_move.false)

pub grow_in_place-requires-clause-grows : goal.grow_in_place-requires-clause-grows
grow_in_place-requires-clause-grows g c =
    grows (sized g (goal.at.grow_in_place-requires-clause-grows g c).After-bytes_of) c.if-bytes-bytes_of.false

pub grow_in_place-requires-clause-lowest : goal.grow_in_place-requires-clause-lowest
grow_in_place-requires-clause-lowest g c =
    lowest (sized g (goal.at.grow_in_place-requires-clause-lowest g c).After-bytes_of)

stays : (g : Over) (c : After-grow_in_place g) → IsSized (is_relocatable c.args.slot) c.args.place c.args.size
    c.in-Some.bytes c.bytes_of.result (g.S.BlockStore.zone c.args.store.now) → seek_sized (is_relocatable c.args.slot)
    c.args.size (spared c.args.sparing) (g.S.BlockStore.zone c.args.store.now)
    ≡ seek_still c.args.place c.args.size (spared c.args.sparing) (g.S.BlockStore.zone c.args.store.now)
stays g c k = stays-is k c.if-bytes-bytes_of.false
    (movable k c.block_at.result c.can_move.result c.block_at.ensures c.can_move.ensures ∙ c.if-can_move.false)
    (spared c.args.sparing)

pub returns-clause-went : goal.returns-clause-went
returns-clause-went g c =
    let at = goal.at.returns-clause-went g c in
    went-as c.grow_in_place.result (spared c.args.sparing) (g.S.BlockStore.zone c.args.store.now)
    (g.S.BlockStore.zone c.grow_in_place.new.store) (g.S.BlockStore.rest c.args.store.now)
    (g.S.BlockStore.rest c.grow_in_place.new.store) _ _ (stays g at.After-grow_in_place (sized g at.After-bytes_of))
    c.grow_in_place.ensures.went

pub returns-clause-hears : goal.returns-clause-hears
returns-clause-hears g c =
    let at = goal.at.returns-clause-hears g c in
    hears-as g.K.PurgeSink.told g.K.PurgeSink.waits g.K.PurgeSink.listens _ _ _ _ c.args.sink.now
    c.grow_in_place.new.sink (λ done. done) (ap (λ (p : Sought). told_along c.args.names.now (spared c.args.sparing) p
    (g.S.BlockStore.zone c.args.store.now)) (sym (stays g at.After-grow_in_place (sized g at.After-bytes_of))))
    c.grow_in_place.ensures.hears
