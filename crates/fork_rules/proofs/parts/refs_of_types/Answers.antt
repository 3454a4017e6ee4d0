use Rattle.fork_rules.proofs.Cited.{arith, ref_count, sum-goes_on}
use Rattle.fork_rules.proofs.parts.refs_of_types.Goals as goal

pub loop-preserved : goal.loop-preserved
loop-preserved c = record {
  place = omega arith;
  small = omega arith;
  sum = rw c.half.ensures.value (sum-goes_on (ref_count c.args.bytes.now) c.loop.refs c.loop.at 8 c.args.count
      c.loop.counter _ c.loop-test.true c.loop.invariant.sum);
}
