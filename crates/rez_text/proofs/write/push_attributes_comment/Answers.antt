use Rattle.rez_text.proofs.Appending.{four}
use Rattle.rez_text.proofs.write.push_attributes_comment.Goals as goal

pub returns : goal.returns
returns c =
    four _ _ _ _ _ _ _ _ _ c.in_ok-extend_from_slice.ensures.items c.in_ok-push_hex.ensures c.in_ok-push_hex-2.ensures
    c.in_ok-extend_from_slice-2.ensures.items
