use Rattle.zone_marks.proofs.Cited.{◌≤◌, ◌<◌, ◌∙◌, ap, sym, arith, rules, free_of, largest_free, free_of-le, prefix, Runs, Whole}
use Rattle.zone_marks.proofs.Marks.Counting.{measured-below, measured-edge, prefix-counted, walked-few, walked-start}
use Rattle.zone_marks.proofs.Marks.Counting.{walked-step}
use Rattle.zone_marks.proofs.Marks.Passing.{begins-here, begins-right}
use Rattle.zone_marks.proofs.measuring.measure_up_to.Goals as goal
use Rattle.zone_marks.proofs.Stretches.Monoid.{join-unit_right}

pub loop-at-init : goal.loop-at-init
loop-at-init c = record {
  walked = walked-start Runs _ _ (λ p b. (free_of b ≤ 0) × (p < c.min-stop.result)) c.requires;
  reached = omega arith;
}

pub join-runs-requires : goal.join-runs-requires
join-runs-requires c =
    let f = walked-few _ _ _ _ _ _ c.loop-at.invariant.walked in
    omega (arith, prefix-counted, ap prefix c.runs.ensures, free_of-le c.span_at-span.ensures.here)

pub loop-at-preserved-then-span : goal.loop-at-preserved-then-span
loop-at-preserved-then-span c =
    let m = c.max-most.ensures in
    let s = c.span_at-span.ensures in
    record {
      walked = walked-step Runs _ _ _ _ _ c.loop-at.invariant.walked _ (λ p b r. (omega arith, r.1))
          _ s.here s.is s.up s.way (omega arith, c.loop-at-test.true) _ _
          (c.runs.ensures ∙ (grind arith) ∙ sym (join-unit_right _)) c.join-runs.ensures.is;
      reached = omega (arith, ap largest_free s.is);
    }

-- a block without free bytes that ends no run
pub loop-at-preserved : goal.loop-at-preserved
loop-at-preserved c =
    let s = c.span_at-span.ensures in
    record {
      walked = walked-step Runs _ _ _ _ _ c.loop-at.invariant.walked _ (λ p b r. r)
          _ s.here s.is s.up s.way (omega arith, c.loop-at-test.true) (Whole 0) _
          (grind arith ∙ sym (join-unit_right _)) (sym (join-unit_right _));
      reached = omega (arith, ap largest_free s.is);
    }

pub returns-clause-edge : goal.returns-clause-edge
returns-clause-edge c = search (rules, begins-right, begins-here)

pub returns-clause-order : goal.returns-clause-order
returns-clause-order c = let p = c.loop-at.invariant.walked.passed in omega arith

pub returns-clause-passed : goal.returns-clause-passed
returns-clause-passed c = measured-edge _ _ _ _ _ _ c.loop-at.invariant.walked _

pub returns-clause-below : goal.returns-clause-below
returns-clause-below c = measured-below _ _ _ _ _ _ c.loop-at.invariant.walked c.args.place _ (omega arith) (grind arith)
