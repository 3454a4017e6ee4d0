use Rattle.heap_calls.proofs.Cited.{arith}
use Rattle.heap_calls.proofs.Sizes.GrowingInPlace.{most-above}
use Rattle.heap_calls.proofs.growing_in_place.RunAboveSought.goes_on.Goals as goal

pub returns-clause-few : goal.returns-clause-few
returns-clause-few g c =
    let sought = c.args.self.now in
    let zone = g.S.BlockStore.zone c.args.store.now in
    omega (
      arith,
      most-above sought.place sought.sparing zone sought.most c.requires,
      g.met.S.BlockStore.small c.args.store.now,
    )
