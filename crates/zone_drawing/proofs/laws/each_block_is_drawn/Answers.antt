use Rattle.zone_drawing.proofs.Whole.{each-block, each-counted, each-sized}
use Rattle.zone_drawing.proofs.laws.each_block_is_drawn.Goals as goal

pub returns-clause-blocks : goal.returns-clause-blocks
returns-clause-blocks c = each-block

pub returns-clause-counted : goal.returns-clause-counted
returns-clause-counted c = each-counted

pub returns-clause-sized : goal.returns-clause-sized
returns-clause-sized c = each-sized
