use Rattle.zone_drawing.proofs.Cited.{steps_window}
use Rattle.zone_drawing.proofs.Appending.{also}
use Rattle.zone_drawing.proofs.steps.write_window.Goals as goal

pub returns : goal.returns
unfolding steps_window
returns c = also c.args.text.now.items _ _ (also c.args.text.now.items _ _ (also c.args.text.now.items _ _
    c.in_ok-push_svg_opened.ensures c.in_ok-push_head.ensures) c.in_ok-push_moments.ensures) c.in_ok-put.ensures
