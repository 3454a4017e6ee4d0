use Rattle.zone_marks.proofs.Cited.{arith}
use Rattle.zone_marks.proofs.Bounds.Going.{stays-under}
use Rattle.zone_marks.proofs.keeping.Landmarks.lowest_under.Goals as goal

pub returns : goal.returns
returns c = λ hi old new a r. stays-under _ _ _ _ r _ a.1 _ (omega arith) (omega arith)
