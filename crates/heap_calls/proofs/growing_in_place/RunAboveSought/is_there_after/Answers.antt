use Rattle.heap_calls.proofs.Sizes.GrowingInPlace.{above-seen}
use Rattle.heap_calls.proofs.growing_in_place.RunAboveSought.is_there_after.Goals as goal

pub returns : goal.returns
returns g c = above-seen _ c.args.purges c.args.self.now.most c.args.self.now.sparing _ c.run_after.result c.requires
    c.run_after.ensures
