use Rattle.heap_calls.proofs.Cited.{sym, ◌∙◌, arith, serves, most_purges, least_or_last-le}
use Rattle.heap_calls.proofs.Room.LeastSearches.{run-fewest, run-never}
use Rattle.heap_calls.proofs.Room.Searching.{most-le}
use Rattle.heap_calls.proofs.least.count_for_run.Goals as goal

pub returns-in-Some-clause-least : goal.returns-in-Some-clause-least
returns-in-Some-clause-least g c =
    run-fewest c.args.bytes c.args.sparing (g.S.BlockStore.zone c.args.store.now) c.in-Some.purges c.in-Some.ensures

pub returns-in-Some-clause-few : goal.returns-in-Some-clause-few
returns-in-Some-clause-few g c =
    let zone = g.S.BlockStore.zone c.args.store.now in
    omega (
      arith,
      run-fewest c.args.bytes c.args.sparing zone c.in-Some.purges c.in-Some.ensures,
      least_or_last-le (serves c.args.bytes c.args.sparing zone) (most_purges c.args.sparing zone),
      most-le c.args.sparing zone,
      g.met.S.BlockStore.small c.args.store.now,
    )

pub returns-in-None-clause-least : goal.returns-in-None-clause-least
returns-in-None-clause-least g c =
    c.purgeable.ensures ∙ run-never c.args.bytes c.args.sparing (g.S.BlockStore.zone c.args.store.now) c.in-None.ensures

pub returns-in-None-clause-there : goal.returns-in-None-clause-there
returns-in-None-clause-there g c = sym (c.in-None.ensures c.purgeable.result)

pub returns-in-None-clause-few : goal.returns-in-None-clause-few
returns-in-None-clause-few g c =
    omega (
      arith,
      c.purgeable.ensures,
      most-le c.args.sparing (g.S.BlockStore.zone c.args.store.now),
      g.met.S.BlockStore.small c.args.store.now,
    )
