use Rattle.real_zone.proofs.Cited.{arith, sym, has_references}
use Rattle.real_zone.proofs.Naming.{all_more, all_stop, all_end}
use Rattle.real_zone.proofs.resource_map.has_all_references.Goals as goal

pub returns-then-not-has_references : goal.returns-then-not-has_references
returns-then-not-has_references c =
    all_stop (has_references c.args.content.now) 8 c.type_count-count.result c.loop.counter c.loop.entry _ c.loop-test.true
    (sym c.if-not-has_references.ensures) c.loop.invariant.rest

pub loop-preserved : goal.loop-preserved
loop-preserved c = record {
  all = c.loop.invariant.all;
  place = omega arith;
  rest = all_more (has_references c.args.content.now) 8 c.type_count-count.result c.loop.counter c.loop.entry _ c.loop-test.true
      (sym c.if-not-has_references.ensures) c.loop.invariant.rest;
}

pub returns : goal.returns
returns c =
    all_end (has_references c.args.content.now) 8 c.type_count-count.result c.loop.counter c.loop.entry _ c.loop-test.false
    c.loop.invariant.rest
