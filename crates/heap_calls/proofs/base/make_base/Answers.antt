use Rattle.heap_calls.proofs.Cited.{◌≡◌, sym, ◌∙◌, ap, refl, rules, not-true, not-false, Free, is_nonrelocatable, tidy, has, has_free}
use Rattle.heap_calls.proofs.Cited.{low, with_run}
use Rattle.heap_calls.proofs.Hearing.{hears-as, hears-none}
use Rattle.heap_calls.proofs.NewBlocks.NewSlots.{base-unmade, base-untold, base-told, base-made, base-room}
use Rattle.heap_calls.proofs.Room.Searching.{at_run}
use Rattle.heap_calls.proofs.Room.Staying.{nonrelocatable-purged, nonrelocatable-run, none-low}
use Rattle.heap_calls.proofs.Room.Packing.{raise-allowed}
use Rattle.heap_calls.proofs.base.make_base.Goals as goal

pub raise-requires-clause-run : goal.raise-requires-clause-run
raise-requires-clause-run g c =
    let zone = g.S.BlockStore.zone c.purge_telling.new.store in
    raise-allowed c.args.bytes c.in-Some.run' zone zone refl c.in-Some.ensures

pub returns-then-not-counted-clause-went : goal.returns-then-not-counted-clause-went
returns-then-not-counted-clause-went g c new sized =
    let counts = c.count_for_run-counted in
    base-unmade c.args.bytes c.args.sparing c.requires.whole (g.S.BlockStore.zone c.args.store.now)
    counts.result.purges counts.ensures.least new sized
    (sym counts.ensures.there ∙ not-true counts.result.there c.if-not-counted.true)
    (g.S.BlockStore.rest c.args.store.now)

pub returns-then-not-counted-clause-hears : goal.returns-then-not-counted-clause-hears
returns-then-not-counted-clause-hears g c new sized =
    let counts = c.count_for_run-counted in
    hears-none g.K.PurgeSink.told g.K.PurgeSink.waits g.K.PurgeSink.listens _ _ c.args.sink.now c.requires.idle
    (base-untold c.args.bytes c.args.sparing c.requires.whole (g.S.BlockStore.zone c.args.store.now)
    counts.result.purges counts.ensures.least new sized
    (sym counts.ensures.there ∙ not-true counts.result.there c.if-not-counted.true) c.args.names.now)

pub returns-clause-went : goal.returns-clause-went
returns-clause-went g c new sized =
    let counts = c.count_for_run-counted in
    let rest = g.S.BlockStore.rest c.args.store.now in
    base-made c.args.bytes c.args.sparing c.requires.whole (g.S.BlockStore.zone c.args.store.now)
    counts.result.purges counts.ensures.least new sized c.in-Some.run' (g.S.BlockStore.zone c.purge_telling.new.store)
    (g.S.BlockStore.zone c.raise.new.self) c.requires.positive c.in_ok-purge_telling.ensures.zone c.in-Some.ensures
    c.in_ok-raise.ensures.ok rest (g.S.BlockStore.rest c.raise.new.self)
    (c.in_ok-raise.ensures.rest.moves ∙ c.purge_telling.ensures.rest.moves)

pub returns-clause-hears : goal.returns-clause-hears
returns-clause-hears g c new sized =
    let counts = c.count_for_run-counted in
    hears-as g.K.PurgeSink.told g.K.PurgeSink.waits g.K.PurgeSink.listens _ _ _ _ c.args.sink.now
    c.purge_telling.new.sink (λ done. search rules)
    (base-told c.args.bytes c.args.sparing c.requires.whole (g.S.BlockStore.zone c.args.store.now)
    counts.result.purges counts.ensures.least new sized
    (sym counts.ensures.there ∙ not-false counts.result.there c.if-not-counted.false) c.args.names.now)
    c.purge_telling.ensures.hears

pub returns-clause-room : goal.returns-clause-room
returns-clause-room g c =
    base-room c.args.bytes c.in-Some.run' (g.S.BlockStore.zone c.purge_telling.new.store)
    (g.S.BlockStore.zone c.raise.new.self) c.requires.positive c.in-Some.ensures c.in_ok-raise.ensures.ok

pub returns-in_err-raise-clause-nonrelocatable : goal.returns-in_err-raise-clause-nonrelocatable
returns-in_err-raise-clause-nonrelocatable g c place =
    ap (has (is_nonrelocatable place)) (c.in_err-raise.ensures.err ∙ c.in_ok-purge_telling.ensures.zone)
    ∙ nonrelocatable-purged c.count_for_run-counted.result.purges c.args.sparing
    (g.S.BlockStore.zone c.args.store.now) place

pub returns-clause-nonrelocatable : goal.returns-clause-nonrelocatable
returns-clause-nonrelocatable g c place =
    let zone = g.S.BlockStore.zone c.purge_telling.new.store in
    let after = g.S.BlockStore.zone c.raise.new.self in
    let found = c.in-Some.ensures in
    let raised = at_run c.in-Some.run' zone zone found.0 (λ r. after ≡ tidy (with_run (low (Free c.args.bytes)) r)) refl
    found.2 c.in_ok-raise.ensures.ok in
    ap (has (is_nonrelocatable place)) raised ∙ nonrelocatable-run (low (Free c.args.bytes)) (none-low c.args.bytes)
    (has_free c.args.bytes) zone found.0 found.1 place
    ∙ ap (has (is_nonrelocatable place)) c.in_ok-purge_telling.ensures.zone
    ∙ nonrelocatable-purged c.count_for_run-counted.result.purges c.args.sparing
    (g.S.BlockStore.zone c.args.store.now) place
