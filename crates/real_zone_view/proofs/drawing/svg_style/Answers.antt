use Rattle.real_zone_view.proofs.Cited.{refl, svg_style}
use Rattle.real_zone_view.proofs.drawing.svg_style.Goals as goal

pub returns : goal.returns
unfolding svg_style
returns c = refl
