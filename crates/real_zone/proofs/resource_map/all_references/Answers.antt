use Rattle.real_zone.proofs.Cited.{arith, reference_count}
use Rattle.real_zone.proofs.Naming.{summed_more, summed_end}
use Rattle.real_zone.proofs.resource_map.all_references.Goals as goal

pub loop-preserved : goal.loop-preserved
loop-preserved c = record {
  all = c.loop.invariant.all;
  place = omega arith;
  few = omega arith;
  rest = rw c.reference_count-sum.ensures.count
      (summed_more (reference_count c.args.content.now) 8 c.type_count-count.result c.loop.counter c.loop.entry c.loop.sum _
      c.loop-test.true c.loop.invariant.rest);
}

pub returns-clause-count : goal.returns-clause-count
returns-clause-count c =
    summed_end (reference_count c.args.content.now) 8 c.type_count-count.result c.loop.counter c.loop.entry c.loop.sum _
    c.loop-test.false c.loop.invariant.rest
