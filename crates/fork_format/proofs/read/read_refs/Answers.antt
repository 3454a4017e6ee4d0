use Rattle.fork_format.proofs.Cited.{ref_fits}
use Rattle.fork_format.proofs.Loops.{all_goes_on}
use Rattle.fork_format.proofs.read.read_refs.Goals as goal

pub ref_of-next-requires-clause-fits : goal.ref_of-next-requires-clause-fits
ref_of-next-requires-clause-fits c = (all_goes_on (ref_fits c.args.bytes.now) c.loop.at 12 c.args.count c.loop.counter
    c.loop-test.true c.loop.invariant.fits).0
