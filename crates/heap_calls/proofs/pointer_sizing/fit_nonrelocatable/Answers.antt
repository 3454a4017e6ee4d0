use Rattle.heap_calls.proofs.Cited.{◌≡◌, false, sym, ◌∙◌, ap, subst, is_some, is_nonrelocatable, is_mover, spot-passes, nothing, Sought, Went}
use Rattle.heap_calls.proofs.Cited.{told_along}
use Rattle.heap_calls.proofs.Going.{went-as, went-nowhere, sized-large}
use Rattle.heap_calls.proofs.Hearing.{hears-as, hears-none}
use Rattle.heap_calls.proofs.Rows.Found.{pointer-still}
use Rattle.heap_calls.proofs.Sizes.Resizing.{IsSized, pointer-sized, lowest, cut-went, cut-told, cut-nonrelocatable, grows, still, stays-is}
use Rattle.heap_calls.proofs.pointer_sizing.fit_nonrelocatable.Given.{Over}
use Rattle.heap_calls.proofs.pointer_sizing.fit_nonrelocatable.Goals.{After-bytes_at}
use Rattle.heap_calls.proofs.pointer_sizing.fit_nonrelocatable.Goals as goal

-- No block can have the size.

pub returns-in_default-clause-went : goal.returns-in_default-clause-went
returns-in_default-clause-went g c =
    let zone = g.S.BlockStore.zone c.args.store.now in
    let rest = g.S.BlockStore.rest c.args.store.now in
    subst (λ (p : Sought). Went nothing zone p false 0 zone rest rest) (sym (sized-large (is_nonrelocatable c.args.place)
    c.args.size nothing zone (ap is_some (sym c.phys.ensures ∙ c.in_default.is)))) (went-nowhere nothing zone rest)

pub returns-in_default-clause-hears : goal.returns-in_default-clause-hears
returns-in_default-clause-hears g c =
    let zone = g.S.BlockStore.zone c.args.store.now in
    hears-none g.K.PurgeSink.told g.K.PurgeSink.waits g.K.PurgeSink.listens _ _ c.args.sink.now c.requires.idle
    (ap (λ (p : Sought). told_along c.args.names.now nothing p zone) (sized-large (is_nonrelocatable c.args.place)
    c.args.size nothing zone (ap is_some (sym c.phys.ensures ∙ c.in_default.is))))

-- what is known of the block
sized : (g : Over) (c : After-bytes_at g) → IsSized (is_nonrelocatable c.args.place) c.args.place c.args.size c.in-Some.bytes
    c.bytes_at.result (g.S.BlockStore.zone c.args.store.now)
sized g c = pointer-sized c.args.place c.args.size c.in-Some.bytes c.bytes_at.result
    (g.S.BlockStore.zone c.args.store.now) c.requires.found (sym c.phys.ensures ∙ c.in-Some.is) c.bytes_at.ensures

-- The block is cut.

pub returns-then-bytes-bytes_at-clause-nonrelocatable : goal.returns-then-bytes-bytes_at-clause-nonrelocatable
returns-then-bytes-bytes_at-clause-nonrelocatable g c =
    cut-nonrelocatable (sized g (goal.at.returns-then-bytes-bytes_at-clause-nonrelocatable g c).After-bytes_at)
    c.if-bytes-bytes_at.true nothing (g.S.BlockStore.zone c.resize.new.self) c.in_ok-resize.ensures.cut

pub returns-then-bytes-bytes_at-clause-went : goal.returns-then-bytes-bytes_at-clause-went
returns-then-bytes-bytes_at-clause-went g c =
    cut-went (sized g (goal.at.returns-then-bytes-bytes_at-clause-went g c).After-bytes_at) c.if-bytes-bytes_at.true
    nothing (g.S.BlockStore.zone c.resize.new.self) (g.S.BlockStore.rest c.args.store.now)
    (g.S.BlockStore.rest c.resize.new.self) c.in_ok-resize.ensures.cut c.resize.ensures.rest.moves

pub returns-then-bytes-bytes_at-clause-hears : goal.returns-then-bytes-bytes_at-clause-hears
returns-then-bytes-bytes_at-clause-hears g c =
    hears-none g.K.PurgeSink.told g.K.PurgeSink.waits g.K.PurgeSink.listens _ _ c.args.sink.now c.requires.idle
    (cut-told (sized g (goal.at.returns-then-bytes-bytes_at-clause-hears g c).After-bytes_at) c.if-bytes-bytes_at.true
    nothing c.args.names.now)

-- It grows where it stands.

immovable : (g : Over) (c : After-bytes_at g) → is_mover (sized g c).s.here ≡ false
immovable g c = pointer-still c.args.place (sized g c).s.here (spot-passes (is_nonrelocatable c.args.place)
    (g.S.BlockStore.zone c.args.store.now) (sized g c).s (sized g c).found)

pub grow_in_place-requires-clause-still : goal.grow_in_place-requires-clause-still
grow_in_place-requires-clause-still g c =
    let at = (goal.at.grow_in_place-requires-clause-still g c).After-bytes_at in
    still (sized g at) c.if-bytes-bytes_at.false (immovable g at)

pub grow_in_place-requires-clause-grows : goal.grow_in_place-requires-clause-grows
grow_in_place-requires-clause-grows g c =
    grows (sized g (goal.at.grow_in_place-requires-clause-grows g c).After-bytes_at) c.if-bytes-bytes_at.false

pub grow_in_place-requires-clause-lowest : goal.grow_in_place-requires-clause-lowest
grow_in_place-requires-clause-lowest g c =
    lowest (sized g (goal.at.grow_in_place-requires-clause-lowest g c).After-bytes_at)

pub returns-clause-went : goal.returns-clause-went
returns-clause-went g c =
    let at = (goal.at.returns-clause-went g c).After-bytes_at in
    went-as c.grow_in_place.result nothing (g.S.BlockStore.zone c.args.store.now)
    (g.S.BlockStore.zone c.grow_in_place.new.store) (g.S.BlockStore.rest c.args.store.now)
    (g.S.BlockStore.rest c.grow_in_place.new.store) _ _
    (stays-is (sized g at) c.if-bytes-bytes_at.false (immovable g at) nothing) c.grow_in_place.ensures.went

pub returns-clause-hears : goal.returns-clause-hears
returns-clause-hears g c =
    let at = (goal.at.returns-clause-hears g c).After-bytes_at in
    hears-as g.K.PurgeSink.told g.K.PurgeSink.waits g.K.PurgeSink.listens _ _ _ _ c.args.sink.now
    c.grow_in_place.new.sink (λ done. done) (ap (λ (p : Sought). told_along c.args.names.now nothing p
    (g.S.BlockStore.zone c.args.store.now))
    (sym (stays-is (sized g at) c.if-bytes-bytes_at.false (immovable g at) nothing))) c.grow_in_place.ensures.hears
