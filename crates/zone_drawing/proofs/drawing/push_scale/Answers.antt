use Rattle.zone_drawing.proofs.Cited.{scale}
use Rattle.zone_drawing.proofs.Appending.{also}
use Rattle.zone_drawing.proofs.drawing.push_scale.Goals as goal

pub returns : goal.returns
unfolding scale
returns c = also c.args.text.now.items _ _ (also c.args.text.now.items _ _ (also c.args.text.now.items _ _
    (also c.args.text.now.items _ _ c.in_ok-push_tick.ensures c.in_ok-push_tick-2.ensures) c.in_ok-push_tick-3.ensures)
    c.in_ok-push_tick-4.ensures) c.in_ok-push_tick-5.ensures
