use Rattle.fork_rules.proofs.Cited.{broken_type}
use Rattle.fork_rules.proofs.Walking.{breaks}
use Rattle.fork_rules.proofs.breaking.broken_types_of.Goals as goal

pub returns-in-Some : goal.returns-in-Some
returns-in-Some c = breaks (broken_type c.args.bytes.now) c.loop.at 8 c.args.count c.loop.counter c.in-Some.broken _
    c.loop-test.true c.in-Some.ensures c.loop.invariant.rest
