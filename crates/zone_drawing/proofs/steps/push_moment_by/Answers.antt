use Rattle.zone_drawing.proofs.Cited.{moment_by}
use Rattle.zone_drawing.proofs.Appending.{also}
use Rattle.zone_drawing.proofs.steps.push_moment_by.Goals as goal

pub returns : goal.returns
unfolding moment_by
returns c = also c.args.text.now.items _ _ (also c.args.text.now.items _ _ (also c.args.text.now.items _ _
    (also c.args.text.now.items _ _ (also c.args.text.now.items _ _ c.in_ok-push_group.ensures c.in_ok-push_moved_from.ensures)
    c.in_ok-push_caption.ensures) c.in_ok-push_passed.ensures) c.in_ok-push_strip.ensures) c.in_ok-put.ensures
