use Rattle.zone_drawing.proofs.Cited.{name_at}
use Rattle.zone_drawing.proofs.Appending.{also}
use Rattle.zone_drawing.proofs.strip.push_name_at.Goals as goal

pub returns : goal.returns
unfolding name_at
returns c = also c.args.text.now.items _ _ (also c.args.text.now.items _ _ (also c.args.text.now.items _ _
    (also c.args.text.now.items _ _ c.in_ok-put.ensures c.in_ok-push_attribute.ensures) c.in_ok-put-2.ensures)
    c.in_ok-push_escaped.ensures) c.in_ok-put-3.ensures
