use Rattle.zone_drawing.proofs.Cited.{refl, svg_legend}
use Rattle.zone_drawing.proofs.drawing.svg_legend.Goals as goal

pub returns : goal.returns
unfolding svg_legend
returns c = refl
