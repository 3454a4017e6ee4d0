use Rattle.real_zone_view.proofs.Cited.{refl, svg_legend}
use Rattle.real_zone_view.proofs.drawing.svg_legend.Goals as goal

pub returns : goal.returns
unfolding svg_legend
returns c = refl
