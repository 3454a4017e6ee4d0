use Rattle.fork_format.proofs.Cited.{type_size, refs_fit}
use Rattle.fork_format.proofs.Loops.{tally_stops}
use Rattle.fork_format.proofs.layout.types_size_of.Goals as goal

pub returns-in_default : goal.returns-in_default
returns-in_default c =
    tally_stops (refs_fit c.args.bytes.now) (type_size c.args.bytes.now) c.loop.data c.loop.at 8 c.args.count
    c.loop.counter _ c.loop-test.true (cc) c.loop.invariant.sizes
