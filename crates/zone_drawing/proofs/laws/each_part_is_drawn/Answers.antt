use Rattle.zone_drawing.proofs.Whole.{parts-counted, parts-sized}
use Rattle.zone_drawing.proofs.laws.each_part_is_drawn.Goals as goal

pub returns-clause-counted : goal.returns-clause-counted
returns-clause-counted c = parts-counted

pub returns-clause-sized : goal.returns-clause-sized
returns-clause-sized c = parts-sized
