use Rattle.real_zone.proofs.Cited.{arith, true, get, nat_cmp, has_references, named_in_type}
use Rattle.real_zone.proofs.Naming.{spaced_next, spaced_end, all_here, all_more, found_more, found_end}
use Rattle.real_zone.proofs.resources.enter_types.Goals as goal

pub enter_type-requires-clause-inside : goal.enter_type-requires-clause-inside
enter_type-requires-clause-inside c =
    all_here (has_references c.args.content.now) 8 c.type_count-count.result c.loop.counter c.loop.entry c.loop-test.true
    c.loop.invariant.inside

pub loop-preserved : goal.loop-preserved
loop-preserved c = record {
  all = c.loop.invariant.all;
  place = omega arith;
  inside = all_more (has_references c.args.content.now) 8 c.type_count-count.result c.loop.counter c.loop.entry true
      c.loop-test.true (all_here (has_references c.args.content.now) 8 c.type_count-count.result c.loop.counter c.loop.entry
      c.loop-test.true c.loop.invariant.inside) c.loop.invariant.inside;
  entered = λ other. found_more (named_in_type c.args.form c.args.content.now other) (get nat_cmp c.loop.resources other)
      (get nat_cmp c.enter_type.new.resources other) c.loop.entry _ _ _
      (spaced_next 8 c.type_count-count.result c.loop.counter c.loop.entry c.loop-test.true)
      (c.in_ok-enter_type.ensures other) (c.loop.invariant.entered other);
}

pub returns : goal.returns
returns c = λ other.
    found_end (named_in_type c.args.form c.args.content.now other) (get nat_cmp c.loop.resources other) _ _
    (spaced_end 8 c.type_count-count.result c.loop.counter c.loop.entry c.loop-test.false) (c.loop.invariant.entered other)
