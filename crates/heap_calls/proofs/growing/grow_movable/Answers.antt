use Rattle.heap_calls.proofs.Cited.{◌≡◌, ◌-◌, true, Some, is_some, sym, ◌∙◌, ap, rules, not-false, not-true, true≢false}
use Rattle.heap_calls.proofs.Cited.{is_relocatable, is_nonrelocatable, grow_mover, counted, spot, has, Grow, lowered_by, grown}
use Rattle.mac_words.specs.Size.{phys as physical_size}
use Rattle.block_store.specs.Block.{size as size_of}
use Rattle.heap_calls.proofs.Hearing.{hears-none, hears-as}
use Rattle.heap_calls.proofs.Room.LeastSearches.{growth-there, growth-whole, growth-first}
use Rattle.heap_calls.proofs.Room.MoveCounts.{packs-after}
use Rattle.heap_calls.proofs.Room.Staying.{nonrelocatable-purged}
use Rattle.heap_calls.proofs.Sizes.Carrying.{purged-grown, purged-grows, purged-more, purged-mover, grown-size, grown-more}
use Rattle.heap_calls.proofs.Sizes.Carrying.{grown-positive, growth-went, growth-not_went, growth-told, growth-untold}
use Rattle.heap_calls.proofs.growing.grow_movable.Given.{Over}
use Rattle.heap_calls.proofs.growing.grow_movable.Goals.{After-carry_out, In_ok-purge_telling}
use Rattle.heap_calls.proofs.growing.grow_movable.Goals as goal

-- The block grows without a purge.

grows : (g : Over) (c : After-carry_out g) → is_some (grow_mover (is_relocatable c.args.slot)
    (grown c.args.bytes (spot (is_relocatable c.args.slot) (g.S.BlockStore.zone c.args.store.now)))
    (g.S.BlockStore.zone c.args.store.now)) ≡ true
grows g c =
    let zone = g.S.BlockStore.zone c.args.store.now in
    let t = is_relocatable c.args.slot in
    sym (growth-there t (grown c.args.bytes (spot t zone)) zone (grown-positive c.args.slot c.args.bytes zone c.requires.more)
    (Some c.in-Some-growth_now.growth) c.in-Some-growth_now.ensures)

pub returns-in-Some-growth_now-clause-went : goal.returns-in-Some-growth_now-clause-went
returns-in-Some-growth_now-clause-went g c =
    let zone = g.S.BlockStore.zone c.args.store.now in
    let rest = g.S.BlockStore.rest c.args.store.now in
    let new = grown c.args.bytes (spot (is_relocatable c.args.slot) zone) in
    let tidied = g.met.S.BlockStore.tidied c.args.store.now in
    let there = grows g (goal.at.returns-in-Some-growth_now-clause-went g c).After-carry_out in
    let whole = growth-whole c.args.slot c.args.bytes c.args.sparing zone c.requires.whole tidied in
    growth-went c.args.sparing c.args.slot c.args.bytes zone c.requires.whole c.requires.more 0
    (growth-first c.args.slot c.args.bytes c.args.sparing zone c.requires.whole tidied there)
    (g.S.BlockStore.zone c.carry_out.new.store)
    (ap (grow_mover (is_relocatable c.args.slot) new) whole ∙ c.in_ok-carry_out.ensures.ok) rest
    (g.S.BlockStore.rest c.carry_out.new.store)
    (c.carry_out.ensures.moves ∙ ap (λ z. counted rest.moves (lowered_by (Grow new) z)) (sym whole))

pub returns-in-Some-growth_now-clause-hears : goal.returns-in-Some-growth_now-clause-hears
returns-in-Some-growth_now-clause-hears g c =
    let zone = g.S.BlockStore.zone c.args.store.now in
    let t = is_relocatable c.args.slot in
    let tidied = g.met.S.BlockStore.tidied c.args.store.now in
    let there = grows g (goal.at.returns-in-Some-growth_now-clause-hears g c).After-carry_out in
    hears-none g.K.PurgeSink.told g.K.PurgeSink.waits g.K.PurgeSink.listens _ _ c.args.sink.now c.requires.idle
    (sym (growth-told c.args.sparing c.args.slot c.args.bytes zone c.requires.whole c.requires.more 0
    (growth-first c.args.slot c.args.bytes c.args.sparing zone c.requires.whole tidied there) c.args.names.now
    (ap (λ z. is_some (grow_mover t (grown c.args.bytes (spot t zone)) z))
    (growth-whole c.args.slot c.args.bytes c.args.sparing zone c.requires.whole tidied) ∙ there)))

-- It doesn't grow.

pub returns-then-not-counted-clause-went : goal.returns-then-not-counted-clause-went
returns-then-not-counted-clause-went g c =
    let counts = c.count_for_growth-counted in
    growth-not_went c.args.sparing c.args.slot c.args.bytes (g.S.BlockStore.zone c.args.store.now) c.requires.whole
    c.requires.more counts.result.purges counts.ensures.least
    (sym counts.ensures.there ∙ not-true counts.result.there c.if-not-counted.true)
    (g.S.BlockStore.rest c.args.store.now)

pub returns-then-not-counted-clause-hears : goal.returns-then-not-counted-clause-hears
returns-then-not-counted-clause-hears g c =
    let counts = c.count_for_growth-counted in
    hears-none g.K.PurgeSink.told g.K.PurgeSink.waits g.K.PurgeSink.listens _ _ c.args.sink.now c.requires.idle
    (growth-untold c.args.sparing c.args.slot c.args.bytes (g.S.BlockStore.zone c.args.store.now) c.requires.whole
    c.requires.more counts.result.purges counts.ensures.least
    (sym counts.ensures.there ∙ not-true counts.result.there c.if-not-counted.true) c.args.names.now)

-- It grows after purges.

takes-after : (g : Over) (c : In_ok-purge_telling g) → size_of (grown c.args.bytes
    (spot (is_relocatable c.args.slot) (g.S.BlockStore.zone c.purge_telling.new.store))) ≡ c.in-Some.takes
takes-after g c =
    let zone = g.S.BlockStore.zone c.args.store.now in
    let fits : physical_size c.args.bytes ≡ Some c.in-Some.takes = sym c.phys.ensures ∙ c.in-Some.is in
    ap size_of (purged-grown c.args.sparing c.args.slot c.args.bytes c.count_for_growth-counted.result.purges zone
    c.requires.spared c.requires.whole (g.S.BlockStore.zone c.purge_telling.new.store) c.in_ok-purge_telling.ensures.zone)
    ∙ grown-size c.args.slot c.args.bytes c.in-Some.takes zone c.requires.more fits

pub growth_now-requires-2-clause-takes : goal.growth_now-requires-2-clause-takes
growth_now-requires-2-clause-takes g c = takes-after g (goal.at.growth_now-requires-2-clause-takes g c).In_ok-purge_telling

pub growth_now-requires-2-clause-more : goal.growth_now-requires-2-clause-more
growth_now-requires-2-clause-more g c =
    let zone = g.S.BlockStore.zone c.args.store.now in
    let fits : physical_size c.args.bytes ≡ Some c.in-Some.takes = sym c.phys.ensures ∙ c.in-Some.is in
    purged-more c.args.sparing c.args.slot c.args.bytes c.count_for_growth-counted.result.purges zone
    c.requires.spared c.requires.whole (g.S.BlockStore.zone c.purge_telling.new.store) (c.in-Some.takes - c.bytes_of.result)
    c.in_ok-purge_telling.ensures.zone
    (grown-more c.args.slot c.args.bytes c.in-Some.takes c.bytes_of.result zone c.requires.more
    (grown-size c.args.slot c.args.bytes c.in-Some.takes zone c.requires.more fits) c.bytes_of.ensures)

pub unreachable-requires-in_default-growth_now-2 : goal.unreachable-requires-in_default-growth_now-2
unreachable-requires-in_default-growth_now-2 g c =
    let counts = c.count_for_growth-counted in
    true≢false (sym (sym counts.ensures.there ∙ not-false counts.result.there c.if-not-counted.false)
    ∙ ap is_some (purged-mover c.args.sparing c.args.slot c.args.bytes counts.result.purges
    (g.S.BlockStore.zone c.args.store.now) c.requires.spared c.requires.whole (g.S.BlockStore.zone c.purge_telling.new.store)
    c.in_ok-purge_telling.ensures.zone ∙ c.in_default-growth_now-2.ensures))

pub carry_out-requires-2-clause-block : goal.carry_out-requires-2-clause-block
carry_out-requires-2-clause-block g c =
    purged-grows c.args.sparing c.args.slot c.args.bytes c.count_for_growth-counted.result.purges
    (g.S.BlockStore.zone c.args.store.now) c.requires.spared c.requires.whole (g.S.BlockStore.zone c.purge_telling.new.store)
    c.in_ok-purge_telling.ensures.zone c.requires.more

pub carry_out-requires-2-clause-takes : goal.carry_out-requires-2-clause-takes
carry_out-requires-2-clause-takes g c = takes-after g (goal.at.carry_out-requires-2-clause-takes g c).In_ok-purge_telling

pub returns-clause-went : goal.returns-clause-went
returns-clause-went g c =
    let zone = g.S.BlockStore.zone c.args.store.now in
    let zone1 = g.S.BlockStore.zone c.purge_telling.new.store in
    let rest = g.S.BlockStore.rest c.args.store.now in
    let rest1 = g.S.BlockStore.rest c.purge_telling.new.store in
    let rest2 = g.S.BlockStore.rest c.carry_out-2.new.store in
    let t = is_relocatable c.args.slot in
    let counts = c.count_for_growth-counted in
    let purged = c.in_ok-purge_telling.ensures.zone in
    let same = purged-grown c.args.sparing c.args.slot c.args.bytes counts.result.purges zone c.requires.spared
    c.requires.whole zone1 purged in
    growth-went c.args.sparing c.args.slot c.args.bytes zone c.requires.whole c.requires.more counts.result.purges
    counts.ensures.least (g.S.BlockStore.zone c.carry_out-2.new.store)
    (purged-mover c.args.sparing c.args.slot c.args.bytes counts.result.purges zone c.requires.spared c.requires.whole
    zone1 purged ∙ c.in_ok-carry_out-2.ensures.ok) rest rest2
    (packs-after rest rest1 rest2 _ c.purge_telling.ensures.rest.moves
    (c.carry_out-2.ensures.moves ∙ ap (λ b. counted rest1.moves (lowered_by (Grow b) zone1)) same
    ∙ ap (λ z. counted rest1.moves (lowered_by (Grow (grown c.args.bytes (spot t zone))) z)) purged))

pub returns-in_err-carry_out-2-clause-nonrelocatable : goal.returns-in_err-carry_out-2-clause-nonrelocatable
returns-in_err-carry_out-2-clause-nonrelocatable g c place =
    c.carry_out-2.ensures.nonrelocatable place ∙ ap (has (is_nonrelocatable place)) c.in_ok-purge_telling.ensures.zone
    ∙ nonrelocatable-purged c.count_for_growth-counted.result.purges c.args.sparing
    (g.S.BlockStore.zone c.args.store.now) place

pub returns-clause-nonrelocatable : goal.returns-clause-nonrelocatable
returns-clause-nonrelocatable g c place =
    c.carry_out-2.ensures.nonrelocatable place ∙ ap (has (is_nonrelocatable place)) c.in_ok-purge_telling.ensures.zone
    ∙ nonrelocatable-purged c.count_for_growth-counted.result.purges c.args.sparing
    (g.S.BlockStore.zone c.args.store.now) place

pub returns-clause-hears : goal.returns-clause-hears
returns-clause-hears g c =
    let counts = c.count_for_growth-counted in
    hears-as g.K.PurgeSink.told g.K.PurgeSink.waits g.K.PurgeSink.listens _ _ _ _ c.args.sink.now
    c.purge_telling.new.sink (λ done. search rules)
    (growth-told c.args.sparing c.args.slot c.args.bytes (g.S.BlockStore.zone c.args.store.now) c.requires.whole
    c.requires.more counts.result.purges counts.ensures.least c.args.names.now
    (sym counts.ensures.there ∙ not-false counts.result.there c.if-not-counted.false)) c.purge_telling.ensures.hears
