use Rattle.zone_marks.proofs.Cited.{arith}
use Rattle.zone_marks.proofs.fewest.free_at.Goals as goal

pub returns-then-frees_one : goal.returns-then-frees_one
returns-then-frees_one c = grind arith

pub returns-else-frees_one : goal.returns-else-frees_one
returns-else-frees_one c = grind arith
