use Rattle.zone_drawing.proofs.Cited.{title_by}
use Rattle.zone_drawing.proofs.Appending.{also}
use Rattle.zone_drawing.proofs.strip.push_title_by.Goals as goal

pub returns : goal.returns
unfolding title_by
returns c = also c.args.text.now.items _ _ (also c.args.text.now.items _ _ (also c.args.text.now.items _ _
    (also c.args.text.now.items _ _ (also c.args.text.now.items _ _ c.in_ok-push_escaped.ensures c.in_ok-put.ensures)
    c.in_ok-push_decimal.ensures) c.in_ok-put-2.ensures) c.in_ok-push_decimal-2.ensures) c.in_ok-push_all_classes.ensures
