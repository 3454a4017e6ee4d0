use Rattle.zone_drawing.proofs.Cited.{row}
use Rattle.zone_drawing.proofs.Appending.{also}
use Rattle.zone_drawing.proofs.svg.push_row.Goals as goal

pub returns : goal.returns
unfolding row
returns c = also c.args.text.now.items _ _ (also c.args.text.now.items _ _ (also c.args.text.now.items _ _ c.in_ok-push_group.ensures
    c.in_ok-push_row_place.ensures) c.in_ok-push_strip.ensures) c.in_ok-put.ensures
