use Rattle.zone_drawing.proofs.Cited.{overview}
use Rattle.zone_drawing.proofs.Appending.{also}
use Rattle.zone_drawing.proofs.svg.push_overview.Goals as goal

pub returns : goal.returns
unfolding overview
returns c = also c.args.text.now.items _ _ (also c.args.text.now.items _ _ (also c.args.text.now.items _ _
    (also c.args.text.now.items _ _ c.in_ok-push_group.ensures c.in_ok-push_strip.ensures) c.in_ok-put.ensures)
    c.in_ok-push_scale_at.ensures) c.in_ok-push_legend.ensures
