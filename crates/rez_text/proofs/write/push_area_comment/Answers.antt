use Rattle.rez_text.proofs.Appending.{three}
use Rattle.rez_text.proofs.write.push_area_comment.Goals as goal

pub returns : goal.returns
returns c =
    three _ _ _ _ _ _ _ c.in_ok-extend_from_slice.ensures.items c.in_ok-push_area_lines.ensures
    c.in_ok-extend_from_slice-2.ensures.items
