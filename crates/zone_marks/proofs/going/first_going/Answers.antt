use Rattle.zone_marks.proofs.Cited.{sym, ◌∙◌, rules}
use Rattle.zone_marks.proofs.Bounds.Going.{all-stay, passed-stays}
use Rattle.zone_marks.proofs.going.first_going.Goals as goal

pub returns-then-may_purge_now : goal.returns-then-may_purge_now
returns-then-may_purge_now c = all-stay _ _ _ c.loop-at.invariant

pub loop-at-preserved : goal.loop-at-preserved
loop-at-preserved c =
    let s = c.step_at-step in
    passed-stays _ _ _ c.loop-at.invariant _ s.result.end s.ensures (sym (search rules) ∙ c.if-may_purge_now.false)

pub returns : goal.returns
returns c = all-stay _ _ _ c.loop-at.invariant
