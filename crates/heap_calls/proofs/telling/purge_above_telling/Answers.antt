use Rattle.heap_calls.proofs.Cited.{◌≡◌, ◌+◌, ◌∙◌, ℕ, sym, ap, subst, arith, rules, IsEdge, spot_at, some_and, edge-behind, Hears}
use Rattle.heap_calls.proofs.Cited.{gone_from, blocks_from}
use Rattle.heap_calls.proofs.GoneBlocks.{from-behind}
use Rattle.heap_calls.proofs.Hearing.{hears-as}
use Rattle.heap_calls.proofs.Sizes.GrowingInPlace.{some_if, spot-small}
use Rattle.heap_calls.proofs.telling.purge_above_telling.Goals as goal

pub overflow_add-place : goal.overflow_add-place
overflow_add-place g c =
    let zone = g.S.BlockStore.zone c.args.store.now in
    let here = some_and (spot_at c.args.place zone) _ c.requires.here in
    omega (arith, here.2, spot-small c.args.place zone here.0 here.1, g.met.S.BlockStore.small c.args.store.now)

pub tell-requires-clause-edge : goal.tell-requires-clause-edge
tell-requires-clause-edge g c =
    let place = c.args.place in
    let zone = g.S.BlockStore.zone c.args.store.now in
    let here = some_and (spot_at place zone) _ c.requires.here in
    subst (λ (n : ℕ). IsEdge (place + n) zone) (sym here.2) (edge-behind place zone here.0 here.1)

pub returns-clause-hears : goal.returns-clause-hears
returns-clause-hears g c =
    let place = c.args.place in
    let zone = g.S.BlockStore.zone c.args.store.now in
    let here = some_and (spot_at place zone) _ c.requires.here in
    let same : blocks_from (place + c.args.taken) zone ≡ here.0.above =
    ap (λ n. blocks_from (place + n) zone) here.2 ∙ from-behind place zone here.0 (g.met.S.BlockStore.tidied c.args.store.now) here.1 in
    some_if (spot_at place zone) here.0 (λ s. Hears g.K.PurgeSink.told g.K.PurgeSink.waits g.K.PurgeSink.listens _
    (gone_from c.args.names.now c.args.sparing c.args.purges s.above) c.args.sink.now c.tell.new.sink) here.1
    (hears-as g.K.PurgeSink.told g.K.PurgeSink.waits g.K.PurgeSink.listens _ _ _ _ c.args.sink.now c.tell.new.sink
    (λ done. search rules) (ap (gone_from c.args.names.now c.args.sparing c.args.purges) same) c.tell.ensures.hears)
