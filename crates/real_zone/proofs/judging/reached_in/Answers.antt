use Rattle.real_zone.proofs.Cited.{sym, arith}
use Rattle.real_zone.proofs.Judged.{counted_more, counted_last, counted_all}
use Rattle.real_zone.proofs.judging.reached_in.Goals as goal

pub returns-then-not-can_pass : goal.returns-then-not-can_pass
returns-then-not-can_pass c =
    counted_last c.args.form c.args.bytes.now c.loop-at.at c.loop-at.count _ c.loop-at-test.true (sym c.if-not-can_pass.ensures)
    c.loop-at.invariant.rest

pub loop-at-preserved : goal.loop-at-preserved
loop-at-preserved c = record {
  inside = c.after-at.ensures.inside;
  small = omega arith;
  rest = rw c.after-at.ensures.place
      (counted_more c.args.form c.args.bytes.now c.loop-at.at c.loop-at.count _ (sym c.if-not-can_pass.ensures)
      c.loop-at.invariant.rest);
}

pub returns : goal.returns
returns c =
    counted_all c.args.form c.args.bytes.now c.loop-at.at c.loop-at.count _ c.loop-at-test.false c.loop-at.invariant.rest
