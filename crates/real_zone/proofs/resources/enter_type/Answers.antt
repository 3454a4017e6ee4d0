use Rattle.real_zone.proofs.Cited.{arith, get, nat_cmp, named_by}
use Rattle.real_zone.proofs.Naming.{spaced_next, spaced_end, all_left, found_more, found_end}
use Rattle.real_zone.proofs.resources.enter_type.Goals as goal

pub loop-init : goal.loop-init
loop-init c = record {
  all = c.reference_count-count.ensures.count;
  place = omega (arith, c.first_reference-reference.ensures.offset);
  entered = λ other. all_left c.args.form c.args.content.now c.args.entry c.reference_count-count.result
      c.first_reference-reference.result other (get nat_cmp c.args.resources.now other)
      c.reference_count-count.ensures.count c.first_reference-reference.ensures.offset;
}

pub loop-preserved : goal.loop-preserved
loop-preserved c = record {
  all = c.loop.invariant.all;
  place = omega arith;
  entered = λ other. found_more (named_by c.args.form c.args.content.now c.args.entry other)
      (get nat_cmp c.loop.resources other) (get nat_cmp c.enter_reference.new.resources other) c.loop.reference _ _ _
      (spaced_next 12 c.reference_count-count.result c.loop.counter c.loop.reference c.loop-test.true)
      (c.in_ok-enter_reference.ensures other) (c.loop.invariant.entered other);
}

pub returns : goal.returns
returns c = λ other.
    found_end (named_by c.args.form c.args.content.now c.args.entry other) (get nat_cmp c.loop.resources other) _ _
    (spaced_end 12 c.reference_count-count.result c.loop.counter c.loop.reference c.loop-test.false)
    (c.loop.invariant.entered other)
