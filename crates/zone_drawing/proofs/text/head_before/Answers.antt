use Rattle.zone_drawing.proofs.Cited.{refl, head_before}
use Rattle.zone_drawing.proofs.text.head_before.Goals as goal

pub returns : goal.returns
unfolding head_before
returns c = refl
