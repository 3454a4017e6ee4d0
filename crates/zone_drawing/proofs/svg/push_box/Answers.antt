use Rattle.zone_drawing.proofs.Appending.{also}
use Rattle.zone_drawing.proofs.svg.push_box.Goals as goal

pub returns : goal.returns
returns c = also c.args.text.now.items _ _ (also c.args.text.now.items _ _ (also c.args.text.now.items _ _
    (also c.args.text.now.items _ _ c.in_ok-put.ensures c.in_ok-push_kind.ensures) c.in_ok-push_locked.ensures)
    c.in_ok-push_purgeable.ensures) c.in_ok-put-2.ensures
