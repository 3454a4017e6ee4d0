use Rattle.zone_drawing.proofs.Appending.{also}
use Rattle.zone_drawing.proofs.svg.push_title.Goals as goal

pub returns : goal.returns
returns c = also c.args.text.now.items _ _ (also c.args.text.now.items _ _ (also c.args.text.now.items _ _
    c.in_ok-push_title_opened.ensures c.in_ok-put.ensures) c.in_ok-push_escaped.ensures) c.in_ok-put-2.ensures
