use Rattle.zone_drawing.proofs.Appending.{also}
use Rattle.zone_drawing.proofs.totals.push_totals.Goals as goal

pub returns : goal.returns
returns c = also c.args.text.now.items _ _ (also c.args.text.now.items _ _ (also c.args.text.now.items _ _
    (also c.args.text.now.items _ _ c.in_ok-push_totals_head.ensures c.in_ok-push_kinds.ensures) c.in_ok-push_marks.ensures)
    c.in_ok-push_largest.ensures) c.in_ok-push_totals_end.ensures
