use Rattle.real_zone_view.proofs.Cited.{also}
use Rattle.real_zone_view.proofs.drawing.push_svg_opened.Goals as goal

pub returns : goal.returns
returns c = also c.args.text.now.items _ _ (also c.args.text.now.items _ _ (also c.args.text.now.items _ _ (also c.args.text.now.items _ _
    c.in_ok-put.ensures c.in_ok-push_attribute.ensures) c.in_ok-put-2.ensures) c.in_ok-push_decimal.ensures) c.in_ok-put-3.ensures
