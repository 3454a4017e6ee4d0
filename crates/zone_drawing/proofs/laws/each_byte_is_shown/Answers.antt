use Rattle.zone_drawing.proofs.InRows.{each-byte}
use Rattle.zone_drawing.proofs.laws.each_byte_is_shown.Goals as goal

pub returns : goal.returns
returns c = each-byte
