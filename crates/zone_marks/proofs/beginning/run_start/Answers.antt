use Rattle.zone_marks.proofs.Cited.{arith, append_cancel_right}
use Rattle.zone_marks.proofs.Marks.Lowering.{begins-way}
use Rattle.zone_marks.proofs.Marks.Passing.{begins-within}
use Rattle.zone_marks.proofs.Searches.Going.{edge-further, start-further}
use Rattle.zone_marks.proofs.Searches.Pieces.{left-long}
use Rattle.zone_marks.proofs.beginning.run_start.Goals as goal

pub step_at-step-requires : goal.step_at-step-requires
step_at-step-requires c =
    let v = c.loop-place.invariant in
    let i = c.args.sound.now.sound in
    let w = begins-within _ _ _ v.to in
    record {
      way = begins-way _ _ _ i _ v.done.1.edge;
      some = omega (arith, left-long _ _ _ i _ v.done.1.edge);
    }

pub loop-place-preserved-then-not-is_in_run : goal.loop-place-preserved-then-not-is_in_run
loop-place-preserved-then-not-is_in_run c =
    let s = c.step_at-step.ensures in
    let h = c.is_in_run.ensures s.here s.told in
    record {
      done = start-further _ _ _ _ s _ _ c.args.sound.now.sound _ _ _ c.loop-place.invariant.done (grind arith);
      to = edge-further _ _ _ _ s _ c.loop-place-test.true c.loop-place.invariant.to;
    }

pub loop-place-preserved : goal.loop-place-preserved
loop-place-preserved c =
    let s = c.step_at-step.ensures in
    let h = c.is_in_run.ensures s.here s.told in
    record {
      done = start-further _ _ _ _ s _ _ c.args.sound.now.sound _ _ _ c.loop-place.invariant.done (grind arith);
      to = edge-further _ _ _ _ s _ c.loop-place-test.true c.loop-place.invariant.to;
    }

pub returns : goal.returns
returns c here p =
    let d = c.loop-place.invariant.done in
    let w = begins-within _ _ _ c.loop-place.invariant.to in
    grind (arith, append_cancel_right)
