use Rattle.zone_marks.proofs.Cited.{◌<◌, ◌∙◌, sym, arith, Spaces}
use Rattle.zone_marks.proofs.Marks.Counting.{prefix-counted, walked-below, walked-few, walked-start, walked-step}
use Rattle.zone_marks.proofs.measuring.spaces_up_to.Goals as goal
use Rattle.zone_marks.proofs.Stretches.Monoid.{join-unit_right}

pub loop-at-init : goal.loop-at-init
loop-at-init c = walked-start Spaces _ _ (λ p _. p < c.min-stop.result) c.requires

pub join-spaces-requires : goal.join-spaces-requires
join-spaces-requires c =
    let w = walked-few _ _ _ _ _ _ c.loop-at.invariant in
    let s = c.space_of_seen.ensures c.step_at-step.ensures.here c.step_at-step.ensures.told (omega arith) in
    grind (arith, prefix-counted)

pub loop-at-preserved : goal.loop-at-preserved
loop-at-preserved c =
    let s = c.step_at-step.ensures in
    walked-step Spaces _ _ _ (λ p _. p < c.min-stop.result) _ c.loop-at.invariant
    (λ p _. p < c.min-stop.result) (λ _ _ r. r) _ s.here s.is s.up s.way c.loop-at-test.true _ _
    (c.space_of_seen.ensures s.here s.told (omega arith) ∙ sym (join-unit_right _)) c.join-spaces.ensures.is

pub returns : goal.returns
returns c = walked-below Spaces _ _ _ (λ p _. p < c.min-stop.result) _ c.loop-at.invariant c.args.place
    (λ p _ r. omega arith) (grind arith)
