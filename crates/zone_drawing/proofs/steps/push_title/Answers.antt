use Rattle.zone_drawing.proofs.Cited.{steps_title}
use Rattle.zone_drawing.proofs.Appending.{also}
use Rattle.zone_drawing.proofs.steps.push_title.Goals as goal

pub returns : goal.returns
unfolding steps_title
returns c = also c.args.text.now.items _ _ (also c.args.text.now.items _ _ (also c.args.text.now.items _ _
    (also c.args.text.now.items _ _ (also c.args.text.now.items _ _ c.in_ok-push_title_opened.ensures c.in_ok-put.ensures)
    c.in_ok-push_decimal.ensures) c.in_ok-put-2.ensures) c.in_ok-push_only_drawn.ensures) c.in_ok-put-3.ensures
