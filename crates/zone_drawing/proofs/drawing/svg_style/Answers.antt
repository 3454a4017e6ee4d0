use Rattle.zone_drawing.proofs.Cited.{refl, svg_style}
use Rattle.zone_drawing.proofs.drawing.svg_style.Goals as goal

pub returns : goal.returns
unfolding svg_style
returns c = refl
