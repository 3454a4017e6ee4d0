use Rattle.heap_calls.proofs.Cited.{◌≡◌, arith, sym, ◌∙◌, is_some, is_relocatable, least_or_last, grow_mover, spot, purged, most_purges}
use Rattle.heap_calls.proofs.Cited.{least_or_last-le, grown}
use Rattle.heap_calls.proofs.Room.Searching.{most-le}
use Rattle.heap_calls.proofs.Sizes.FewestForGrowth.{growth-fewest, growth-least, growth-fails, growth-never}
use Rattle.heap_calls.proofs.Sizes.Growth.{opened-whole}
use Rattle.heap_calls.proofs.growing.count_for_growth.Given.{Over}
use Rattle.heap_calls.proofs.growing.count_for_growth.Goals.{In-Some, In-None}
use Rattle.heap_calls.proofs.growing.count_for_growth.Goals as goal

pub fewest_for_block-in_run-requires-clause-whole : goal.fewest_for_block-in_run-requires-clause-whole
fewest_for_block-in_run-requires-clause-whole g c blocks =
    opened-whole c.args.sparing c.requires.whole blocks

-- the smaller of the two numbers is the least
least : (g : Over) (c : In-Some g) → c.in-Some.purges
    ≡ least_or_last (λ k. is_some (grow_mover (is_relocatable c.args.number) (grown c.args.size
    (spot (is_relocatable c.args.number) (g.S.BlockStore.zone c.args.store.now)))
    (purged k c.args.sparing (g.S.BlockStore.zone c.args.store.now))))
    (most_purges c.args.sparing (g.S.BlockStore.zone c.args.store.now))
least g c =
    let zone = g.S.BlockStore.zone c.args.store.now in
    growth-least c.args.number c.args.size c.args.bytes c.args.more c.args.sparing zone
    c.requires.takes c.requires.positive c.requires.spared c.requires.whole c.requires.mover c.requires.more
    c.fewest_purges-for_place.result c.fewest_for_block-in_run.result c.fewest_purges-for_place.ensures
    c.fewest_for_block-in_run.ensures c.in-Some.purges (sym c.in-Some.ensures)

-- or none serves
never : (g : Over) (c : In-None g) → most_purges c.args.sparing (g.S.BlockStore.zone c.args.store.now)
    ≡ least_or_last (λ k. is_some (grow_mover (is_relocatable c.args.number) (grown c.args.size
    (spot (is_relocatable c.args.number) (g.S.BlockStore.zone c.args.store.now)))
    (purged k c.args.sparing (g.S.BlockStore.zone c.args.store.now))))
    (most_purges c.args.sparing (g.S.BlockStore.zone c.args.store.now))
never g c =
    let zone = g.S.BlockStore.zone c.args.store.now in
    growth-never c.args.number c.args.size c.args.bytes c.args.more c.args.sparing zone
    c.requires.takes c.requires.positive c.requires.spared c.requires.whole c.requires.mover c.requires.more
    c.fewest_purges-for_place.result c.fewest_for_block-in_run.result c.fewest_purges-for_place.ensures
    c.fewest_for_block-in_run.ensures (sym c.in-None.ensures)

pub returns-in-Some-clause-there : goal.returns-in-Some-clause-there
returns-in-Some-clause-there g c =
    let zone = g.S.BlockStore.zone c.args.store.now in
    sym ((growth-fewest c.args.number c.args.size c.args.bytes c.args.more c.args.sparing zone
    c.requires.takes c.requires.positive c.requires.spared c.requires.whole c.requires.mover c.requires.more
    c.fewest_purges-for_place.result c.fewest_for_block-in_run.result c.fewest_purges-for_place.ensures
    c.fewest_for_block-in_run.ensures c.in-Some.purges (sym c.in-Some.ensures)).there)

pub returns-in-Some-clause-least : goal.returns-in-Some-clause-least
returns-in-Some-clause-least g c = least g (goal.at.returns-in-Some-clause-least g c).In-Some

pub returns-in-Some-clause-few : goal.returns-in-Some-clause-few
returns-in-Some-clause-few g c =
    let zone = g.S.BlockStore.zone c.args.store.now in
    let t = is_relocatable c.args.number in
    omega (
      arith,
      least g (goal.at.returns-in-Some-clause-few g c).In-Some,
      least_or_last-le (λ k. is_some (grow_mover t (grown c.args.size (spot t zone)) (purged k c.args.sparing zone)))
          (most_purges c.args.sparing zone),
      most-le c.args.sparing zone,
      g.met.S.BlockStore.small c.args.store.now,
    )

pub returns-in-None-clause-there : goal.returns-in-None-clause-there
returns-in-None-clause-there g c =
    let zone = g.S.BlockStore.zone c.args.store.now in
    sym (growth-fails c.args.number c.args.size c.args.bytes c.args.more c.args.sparing zone
    c.requires.takes c.requires.positive c.requires.spared c.requires.whole c.requires.mover c.requires.more
    c.fewest_purges-for_place.result c.fewest_for_block-in_run.result c.fewest_purges-for_place.ensures
    c.fewest_for_block-in_run.ensures (sym c.in-None.ensures) c.purgeable.result)

pub returns-in-None-clause-least : goal.returns-in-None-clause-least
returns-in-None-clause-least g c = c.purgeable.ensures ∙ never g (goal.at.returns-in-None-clause-least g c).In-None

pub returns-in-None-clause-few : goal.returns-in-None-clause-few
returns-in-None-clause-few g c =
    let zone = g.S.BlockStore.zone c.args.store.now in
    omega (
      arith,
      c.purgeable.ensures,
      most-le c.args.sparing zone,
      g.met.S.BlockStore.small c.args.store.now,
    )
