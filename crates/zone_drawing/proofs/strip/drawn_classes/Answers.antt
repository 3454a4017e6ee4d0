use Rattle.zone_drawing.proofs.Cited.{refl}
use Rattle.zone_drawing.proofs.strip.drawn_classes.Goals as goal

pub returns : goal.returns
returns c = refl
