use Rattle.zone_drawing.proofs.Appending.{also}
use Rattle.zone_drawing.proofs.text.push_owner.Goals as goal

pub returns : goal.returns
returns c = also c.args.text.now.items _ _ (also c.args.text.now.items _ _ (also c.args.text.now.items _ _
    (also c.args.text.now.items _ _ c.in_ok-push_type.ensures c.in_ok-push_between.ensures) c.in_ok-push_id.ensures)
    c.in_ok-push_between-2.ensures) c.in_ok-push_number.ensures
