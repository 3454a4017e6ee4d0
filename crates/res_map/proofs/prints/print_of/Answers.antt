use Rattle.res_map.proofs.Cited.{rules, print}
use Rattle.res_map.proofs.prints.print_of.Goals as goal

pub returns : goal.returns
unfolding print
returns c = search rules
