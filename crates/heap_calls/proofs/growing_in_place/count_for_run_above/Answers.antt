use Rattle.heap_calls.proofs.Cited.{spot_at}
use Rattle.heap_calls.proofs.Sizes.GrowingInPlace.{above-least, above-there}
use Rattle.heap_calls.proofs.growing_in_place.count_for_run_above.Goals as goal

pub returns-clause-least : goal.returns-clause-least
returns-clause-least g c =
    above-least c.args.bytes c.least_search.result.purges c.purgeable_after-most.result c.args.sparing
    (spot_at c.args.place (g.S.BlockStore.zone c.args.store.now)) c.purgeable_after-most.ensures
    c.least_search.ensures.least

pub returns-clause-there : goal.returns-clause-there
returns-clause-there g c =
    above-there c.args.bytes c.least_search.result.purges c.args.sparing
    (spot_at c.args.place (g.S.BlockStore.zone c.args.store.now)) c.least_search.result.there c.least_search.ensures.there
