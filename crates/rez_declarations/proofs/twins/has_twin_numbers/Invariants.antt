use Rattle.rez_declarations.proofs.Cited.{◌≡◌, length, map, number_of, has_twins, number_names}
use Rattle.rez_declarations.proofs.twins.has_twin_numbers.Given as goal

abbrev pub invariant-loop-rest : goal.invariant-loop-rest
invariant-loop-rest l = has_twins (number_names (map number_of l.rest)) ≡ has_twins (number_names (map number_of l.constants))

abbrev pub decreases-loop-rest : goal.decreases-loop-rest
decreases-loop-rest l = length l.rest
