use Rattle.fork_rules.proofs.Cited.{broken_reference}
use Rattle.fork_rules.proofs.Walking.{breaks}
use Rattle.fork_rules.proofs.breaking.broken_references_of.Goals as goal

pub returns-in-Some : goal.returns-in-Some
returns-in-Some c = breaks (broken_reference c.args.bytes.now c.args.entry) c.loop.at 12 c.args.count c.loop.counter c.in-Some.broken _
    c.loop-test.true c.in-Some.ensures c.loop.invariant.rest
