use Rattle.zone_drawing.proofs.Cited.{refl, head_after}
use Rattle.zone_drawing.proofs.text.head_after.Goals as goal

pub returns : goal.returns
unfolding head_after
returns c = refl
