use Rattle.heap_calls.proofs.Cited.{on_ok_weaker, is_relocatable, run_at, high, settle}
use Rattle.heap_calls.proofs.Sizes.Carrying.{is-last, last-allowed, last-runs, last-grows, last-grown, rest-last}
use Rattle.heap_calls.proofs.Room.Staying.{nonrelocatable-then, none-high, none-settle}
use Rattle.heap_calls.proofs.Sizes.Steady.{nonrelocatable-changed_at, some_of}
use Rattle.heap_calls.proofs.Room.MoveCounts.{last-moves}
use Rattle.heap_calls.proofs.growing.grow_as_last.Goals as goal

pub hoist-requires : goal.hoist-requires
hoist-requires g c =
    let zone = g.S.BlockStore.zone c.args.store.now in
    last-allowed c.args.number c.args.size zone c.args.run
    (is-last c.args.number c.args.size zone c.args.run c.requires.block c.requires.found)

pub settle-requires : goal.settle-requires
settle-requires g c =
    let store = c.args.store.now in
    let zone = g.S.BlockStore.zone store in
    last-runs c.args.number c.args.size zone (g.S.BlockStore.zone c.hoist.new.self) c.args.run
    (is-last c.args.number c.args.size zone c.args.run c.requires.block c.requires.found)
    (g.met.S.BlockStore.tidied store) (g.met.S.BlockStore.once store c.args.number) c.hoist.ensures.zone

pub grow_up-requires : goal.grow_up-requires
grow_up-requires g c =
    let store = c.args.store.now in
    let zone = g.S.BlockStore.zone store in
    last-grows c.args.number c.args.size zone (g.S.BlockStore.zone c.hoist.new.self)
    (g.S.BlockStore.zone c.settle.new.self) c.args.run
    (is-last c.args.number c.args.size zone c.args.run c.requires.block c.requires.found)
    (g.met.S.BlockStore.tidied store) (g.met.S.BlockStore.once store c.args.number) c.hoist.ensures.zone
    c.settle.ensures.zone

pub returns-clause-ok : goal.returns-clause-ok
returns-clause-ok g c =
    let store = c.args.store.now in
    let zone = g.S.BlockStore.zone store in
    on_ok_weaker c.grow_up.result
    (last-grown c.args.number c.args.size zone (g.S.BlockStore.zone c.hoist.new.self)
    (g.S.BlockStore.zone c.settle.new.self) (g.S.BlockStore.zone c.grow_up.new.store) c.args.run
    (is-last c.args.number c.args.size zone c.args.run c.requires.block c.requires.found)
    (g.met.S.BlockStore.tidied store) (g.met.S.BlockStore.once store c.args.number) c.hoist.ensures.zone
    c.settle.ensures.zone)
    c.grow_up.ensures.ok

pub returns-clause-rest : goal.returns-clause-rest
returns-clause-rest g c =
    let store = c.args.store.now in
    let zone = g.S.BlockStore.zone store in
    let zone1 = g.S.BlockStore.zone c.hoist.new.self in
    let there = last-runs c.args.number c.args.size zone zone1 c.args.run
    (is-last c.args.number c.args.size zone c.args.run c.requires.block c.requires.found)
    (g.met.S.BlockStore.tidied store) (g.met.S.BlockStore.once store c.args.number) c.hoist.ensures.zone in
    rest-last (g.S.BlockStore.rest store) (g.S.BlockStore.rest c.hoist.new.self) (g.S.BlockStore.rest c.settle.new.self)
    (g.S.BlockStore.rest c.grow_up.new.store) (run_at c.args.run zone1) there c.hoist.ensures.rest
    c.settle.ensures.rest c.grow_up.ensures.rest

pub returns-clause-nonrelocatable : goal.returns-clause-nonrelocatable
returns-clause-nonrelocatable g c =
    let store = c.args.store.now in
    let zone = g.S.BlockStore.zone store in
    let zone1 = g.S.BlockStore.zone c.hoist.new.self in
    let zone2 = g.S.BlockStore.zone c.settle.new.self in
    let last = is-last c.args.number c.args.size zone c.args.run c.requires.block c.requires.found in
    let there = last-runs c.args.number c.args.size zone zone1 c.args.run last (g.met.S.BlockStore.tidied store)
    (g.met.S.BlockStore.once store c.args.number) c.hoist.ensures.zone in
    nonrelocatable-then zone zone1 (g.S.BlockStore.zone c.grow_up.new.store)
    (nonrelocatable-changed_at (high (is_relocatable c.args.number)) (none-high (is_relocatable c.args.number)) c.args.run zone
    zone1 (some_of (run_at c.args.run zone) _ (last-allowed c.args.number c.args.size zone c.args.run last))
    c.hoist.ensures.zone) (nonrelocatable-then zone1 zone2 (g.S.BlockStore.zone c.grow_up.new.store)
    (nonrelocatable-changed_at settle none-settle c.args.run zone1 zone2 there c.settle.ensures.zone) c.grow_up.ensures.nonrelocatable)

pub returns-clause-moves : goal.returns-clause-moves
returns-clause-moves g c =
    let store = c.args.store.now in
    let zone = g.S.BlockStore.zone store in
    last-moves c.args.number c.args.size zone (g.S.BlockStore.zone c.hoist.new.self) c.args.run
    (is-last c.args.number c.args.size zone c.args.run c.requires.block c.requires.found)
    (g.met.S.BlockStore.tidied store) (g.met.S.BlockStore.once store c.args.number) c.hoist.ensures.zone
    (g.S.BlockStore.rest store) (g.S.BlockStore.rest c.hoist.new.self) (g.S.BlockStore.rest c.settle.new.self)
    (g.S.BlockStore.rest c.grow_up.new.store) c.hoist.ensures.rest c.settle.ensures.rest c.grow_up.ensures.rest
