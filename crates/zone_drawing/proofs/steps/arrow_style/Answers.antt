use Rattle.zone_drawing.proofs.Cited.{refl, arrow_style}
use Rattle.zone_drawing.proofs.steps.arrow_style.Goals as goal

pub returns : goal.returns
unfolding arrow_style
returns c = refl
