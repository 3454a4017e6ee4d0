use Rattle.zone_drawing.proofs.Appending.{also}
use Rattle.zone_drawing.proofs.totals.push_after.Goals as goal

pub returns : goal.returns
returns c = also c.args.text.now.items _ _ (also c.args.text.now.items _ _ (also c.args.text.now.items _ _ c.in_ok-put.ensures
    c.in_ok-push_between.ensures) c.in_ok-put-2.ensures) c.in_ok-put-3.ensures
