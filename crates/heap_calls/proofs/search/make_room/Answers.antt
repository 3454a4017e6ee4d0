use Rattle.heap_calls.proofs.Cited.{◌∙◌, sym, ap, refl, rules, not-true, not-false, is_relocatable, is_nonrelocatable, has, purged}
use Rattle.heap_calls.proofs.Cited.{place, is_some, true≢false, placed-is, opened, spared, lowest_purged, none-lowest_purged, has-tidy}
use Rattle.heap_calls.proofs.Hearing.{hears-as, hears-none}
use Rattle.heap_calls.proofs.Room.MoveCounts.{packs-after}
use Rattle.heap_calls.proofs.Room.Places.{place-unmade, place-untold, place-told, place-made, place-wide, once-purged, once-serves}
use Rattle.heap_calls.proofs.Room.Places.{once-least}
use Rattle.heap_calls.proofs.Room.Staying.{nonrelocatable-purged}
use Rattle.heap_calls.proofs.search.make_room.Goals as goal

-- There is a place without a purge.

pub returns-in-Some-clause-went : goal.returns-in-Some-clause-went
returns-in-Some-clause-went g c new sized =
    let zone = g.S.BlockStore.zone c.args.store.now in
    let tidied = g.met.S.BlockStore.tidied c.args.store.now in
    let at = c.in-Some.ensures in
    let pos = c.requires.positive in
    let packed = c.pack_placement-place in
    place-made c.args.bytes pos c.args.sparing zone 0
    (once-least c.args.bytes pos c.args.sparing zone tidied at.whole c.in-Some.placement at.found) new sized packed.result
    zone (g.S.BlockStore.zone packed.new.store)
    (once-purged c.args.bytes pos c.args.sparing zone tidied at.whole c.in-Some.placement at.found) packed.ensures.place
    (g.S.BlockStore.rest c.args.store.now) (g.S.BlockStore.rest packed.new.store) packed.ensures.moves

pub returns-in-Some-clause-room : goal.returns-in-Some-clause-room
returns-in-Some-clause-room g c =
    let packed = c.pack_placement-place in
    place-wide c.args.bytes packed.result (g.S.BlockStore.zone c.args.store.now) (g.S.BlockStore.zone packed.new.store)
    packed.ensures.place

pub returns-in-Some-clause-kept : goal.returns-in-Some-clause-kept
returns-in-Some-clause-kept g c number none =
    c.pack_placement-place.ensures.kept number (ap (has (is_relocatable number)) (sym c.in-Some.ensures.whole) ∙ none)

pub returns-in-Some-clause-hears : goal.returns-in-Some-clause-hears
returns-in-Some-clause-hears g c new sized =
    let zone = g.S.BlockStore.zone c.args.store.now in
    let tidied = g.met.S.BlockStore.tidied c.args.store.now in
    let at = c.in-Some.ensures in
    let pos = c.requires.positive in
    hears-none g.K.PurgeSink.told g.K.PurgeSink.waits g.K.PurgeSink.listens _ _ c.args.sink.now c.requires.idle
    (sym (place-told c.args.bytes pos c.args.sparing zone 0
    (once-least c.args.bytes pos c.args.sparing zone tidied at.whole c.in-Some.placement at.found) new sized
    (once-serves c.args.bytes pos c.args.sparing zone tidied at.whole c.in-Some.placement at.found) c.args.names.now))

-- There is none.

pub returns-then-not-counted-clause-went : goal.returns-then-not-counted-clause-went
returns-then-not-counted-clause-went g c new sized =
    let counts = c.count_for_run-counted in
    place-unmade c.args.bytes c.requires.positive c.args.sparing (g.S.BlockStore.zone c.args.store.now)
    counts.result.purges counts.ensures.least new sized
    (sym counts.ensures.there ∙ not-true counts.result.there c.if-not-counted.true)
    (g.S.BlockStore.rest c.args.store.now)

pub returns-then-not-counted-clause-hears : goal.returns-then-not-counted-clause-hears
returns-then-not-counted-clause-hears g c new sized =
    let counts = c.count_for_run-counted in
    hears-none g.K.PurgeSink.told g.K.PurgeSink.waits g.K.PurgeSink.listens _ _ c.args.sink.now c.requires.idle
    (place-untold c.args.bytes c.requires.positive c.args.sparing (g.S.BlockStore.zone c.args.store.now)
    counts.result.purges counts.ensures.least new sized
    (sym counts.ensures.there ∙ not-true counts.result.there c.if-not-counted.true) c.args.names.now)

pub returns-clause-nonrelocatable : goal.returns-clause-nonrelocatable
returns-clause-nonrelocatable g c place =
    c.pack_placement-place-2.ensures.nonrelocatable place ∙ ap (has (is_nonrelocatable place)) c.in_ok-purge_telling.ensures.zone
    ∙ nonrelocatable-purged c.count_for_run-counted.result.purges c.args.sparing
    (g.S.BlockStore.zone c.args.store.now) place

-- There is one after purges.

pub unreachable-requires : goal.unreachable-requires
unreachable-requires g c =
    let counts = c.count_for_run-counted in
    let after = purged counts.result.purges c.args.sparing (g.S.BlockStore.zone c.args.store.now) in
    true≢false (sym (sym counts.ensures.there ∙ not-false counts.result.there c.if-not-counted.false)
    ∙ sym (placed-is c.args.bytes after c.requires.positive)
    ∙ ap (λ z. is_some (place c.args.bytes z)) (sym c.in_ok-purge_telling.ensures.zone)
    ∙ ap is_some c.in_default-placement_now.ensures)

pub returns-clause-went : goal.returns-clause-went
returns-clause-went g c new sized =
    let rest1 = g.S.BlockStore.rest c.purge_telling.new.store in
    let counts = c.count_for_run-counted in
    let packed = c.pack_placement-place-2 in
    place-made c.args.bytes c.requires.positive c.args.sparing (g.S.BlockStore.zone c.args.store.now)
    counts.result.purges counts.ensures.least new sized packed.result (g.S.BlockStore.zone c.purge_telling.new.store)
    (g.S.BlockStore.zone packed.new.store) c.in_ok-purge_telling.ensures.zone packed.ensures.place
    (g.S.BlockStore.rest c.args.store.now) (g.S.BlockStore.rest packed.new.store)
    (packs-after (g.S.BlockStore.rest c.args.store.now) rest1 (g.S.BlockStore.rest packed.new.store) _
    c.purge_telling.ensures.rest.moves packed.ensures.moves)

pub returns-clause-room : goal.returns-clause-room
returns-clause-room g c =
    let packed = c.pack_placement-place-2 in
    place-wide c.args.bytes packed.result (g.S.BlockStore.zone c.purge_telling.new.store)
    (g.S.BlockStore.zone packed.new.store) packed.ensures.place

pub returns-clause-kept : goal.returns-clause-kept
returns-clause-kept g c number none =
    let seen = opened c.args.sparing (g.S.BlockStore.zone c.args.store.now) in
    let purges = c.count_for_run-counted.result.purges in
    let sp = spared c.args.sparing in
    let t = is_relocatable number in
    c.pack_placement-place-2.ensures.kept number (ap (has t) c.in_ok-purge_telling.ensures.zone
    ∙ has-tidy t (λ n. refl) (lowest_purged purges sp seen) ∙ none-lowest_purged t sp (λ n. refl) purges seen none)

pub returns-clause-hears : goal.returns-clause-hears
returns-clause-hears g c new sized =
    let counts = c.count_for_run-counted in
    hears-as g.K.PurgeSink.told g.K.PurgeSink.waits g.K.PurgeSink.listens _ _ _ _ c.args.sink.now
    c.purge_telling.new.sink (λ done. search rules)
    (place-told c.args.bytes c.requires.positive c.args.sparing (g.S.BlockStore.zone c.args.store.now)
    counts.result.purges counts.ensures.least new sized
    (sym counts.ensures.there ∙ not-false counts.result.there c.if-not-counted.false) c.args.names.now)
    c.purge_telling.ensures.hears
