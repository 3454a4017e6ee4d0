use Rattle.zone_drawing.proofs.Cited.{cell}
use Rattle.zone_drawing.proofs.Appending.{also}
use Rattle.zone_drawing.proofs.svg.push_cell.Goals as goal

pub returns : goal.returns
unfolding cell
returns c = also c.args.text.now.items _ _ (also c.args.text.now.items _ _ (also c.args.text.now.items _ _
    (also c.args.text.now.items _ _ (also c.args.text.now.items _ _ (also c.args.text.now.items _ _ c.in_ok-push_cell_opened.ensures
    c.in_ok-push_box.ensures) c.in_ok-push_place.ensures) c.in_ok-push_caption.ensures) c.in_ok-push_marks.ensures)
    c.in_ok-push_owner.ensures) c.in_ok-put.ensures
