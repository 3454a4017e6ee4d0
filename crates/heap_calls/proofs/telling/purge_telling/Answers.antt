use Rattle.heap_calls.proofs.Cited.{ap, rules, gone_from}
use Rattle.heap_calls.proofs.GoneBlocks.{edge-bottom, from-bottom}
use Rattle.heap_calls.proofs.Hearing.{hears-as}
use Rattle.heap_calls.proofs.telling.purge_telling.Goals as goal

pub tell-requires-clause-edge : goal.tell-requires-clause-edge
tell-requires-clause-edge g c = edge-bottom (g.S.BlockStore.zone c.args.store.now)

pub returns-clause-hears : goal.returns-clause-hears
returns-clause-hears g c =
    hears-as g.K.PurgeSink.told g.K.PurgeSink.waits g.K.PurgeSink.listens _ _ _ _ c.args.sink.now c.tell.new.sink
    (λ done. search rules)
    (ap (gone_from c.args.names.now c.args.sparing c.args.purges) (from-bottom (g.S.BlockStore.zone c.args.store.now)))
    c.tell.ensures.hears
