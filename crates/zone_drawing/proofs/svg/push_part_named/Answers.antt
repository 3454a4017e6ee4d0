use Rattle.zone_drawing.proofs.Cited.{part_named}
use Rattle.zone_drawing.proofs.Appending.{also}
use Rattle.zone_drawing.proofs.svg.push_part_named.Goals as goal

pub returns : goal.returns
unfolding part_named
returns c = also c.args.text.now.items _ _ (also c.args.text.now.items _ _ (also c.args.text.now.items _ _
    (also c.args.text.now.items _ _ c.in_ok-put.ensures c.in_ok-push_decimal.ensures) c.in_ok-put-2.ensures)
    c.in_ok-push_decimal-2.ensures) c.in_ok-put-3.ensures
