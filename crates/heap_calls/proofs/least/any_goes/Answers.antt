use Rattle.heap_calls.proofs.Cited.{arith, ◌∙◌}
use Rattle.heap_calls.proofs.Room.LeastSearches.{next-goes}
use Rattle.heap_calls.proofs.Room.Searching.{most-le}
use Rattle.heap_calls.proofs.least.any_goes.Goals as goal

pub returns-clause-more : goal.returns-clause-more
returns-clause-more g c =
    let zone = g.S.BlockStore.zone c.args.store.now in
    c.is_some.ensures ∙ next-goes c.args.sparing zone c.next_purgeable.result c.next_purgeable.ensures

pub returns-clause-few : goal.returns-clause-few
returns-clause-few g c =
    let zone = g.S.BlockStore.zone c.args.store.now in
    omega (arith, most-le c.args.sparing zone, g.met.S.BlockStore.small c.args.store.now)
