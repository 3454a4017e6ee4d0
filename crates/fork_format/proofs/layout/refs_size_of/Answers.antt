use Rattle.fork_format.proofs.Cited.{ref_size, ref_fits}
use Rattle.fork_format.proofs.Loops.{tally_stops}
use Rattle.fork_format.proofs.layout.refs_size_of.Goals as goal

pub returns-in_default-clause-size : goal.returns-in_default-clause-size
returns-in_default-clause-size c =
    tally_stops (ref_fits c.args.bytes.now) (ref_size c.args.bytes.now) c.loop.data c.loop.at 12 c.args.count
    c.loop.counter _ c.loop-test.true (cc) c.loop.invariant.sizes
