use Rattle.zone_drawing.proofs.Cited.{rectangle}
use Rattle.zone_drawing.proofs.Appending.{also}
use Rattle.zone_drawing.proofs.strip.push_rectangle.Goals as goal

pub returns : goal.returns
unfolding rectangle
returns c = also c.args.text.now.items _ _ (also c.args.text.now.items _ _ (also c.args.text.now.items _ _
    (also c.args.text.now.items _ _ (also c.args.text.now.items _ _ (also c.args.text.now.items _ _ (also c.args.text.now.items _ _
    c.in_ok-put.ensures c.in_ok-put-2.ensures) c.in_ok-put-3.ensures) c.in_ok-push_attribute.ensures) c.in_ok-push_attribute-2.ensures)
    c.in_ok-push_attribute-3.ensures) c.in_ok-push_attribute-4.ensures) c.in_ok-put-4.ensures
