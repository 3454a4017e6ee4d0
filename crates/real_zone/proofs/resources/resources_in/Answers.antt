use Rattle.real_zone.proofs.Cited.{sym, get, nat_cmp, named_in_block}
use Rattle.real_zone.proofs.Naming.{found_more, found_end}
use Rattle.real_zone.proofs.Passed.{passed_next, passed_stop, passed_end}
use Rattle.real_zone.proofs.resources.resources_in.Goals as goal

pub returns-then-not-can_pass : goal.returns-then-not-can_pass
returns-then-not-can_pass c = λ handle.
    found_end (named_in_block c.args.form c.args.bytes.now handle) (get nat_cmp c.loop-at.resources handle) _ _
    (passed_stop c.args.form c.args.bytes.now c.loop-at.at (sym c.if-not-can_pass.ensures))
    (c.loop-at.invariant.entered handle)

pub loop-at-preserved : goal.loop-at-preserved
loop-at-preserved c = record {
  inside = c.after-at.ensures.inside;
  entered = λ handle. rw c.after-at.ensures.place
      (found_more (named_in_block c.args.form c.args.bytes.now handle) (get nat_cmp c.loop-at.resources handle)
      (get nat_cmp c.enter_block.new.resources handle) c.loop-at.at _ _ _
      (passed_next c.args.form c.args.bytes.now c.loop-at.at (sym c.if-not-can_pass.ensures))
      (c.in_ok-enter_block.ensures handle) (c.loop-at.invariant.entered handle));
}

pub returns : goal.returns
returns c = λ handle.
    found_end (named_in_block c.args.form c.args.bytes.now handle) (get nat_cmp c.loop-at.resources handle) _ _
    (passed_end c.args.form c.args.bytes.now c.loop-at.at c.loop-at-test.false) (c.loop-at.invariant.entered handle)
