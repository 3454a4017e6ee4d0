use Rattle.rez_declarations.proofs.Cited.{◌≡◌, length, map, case_of, has_twin_keys}
use Rattle.rez_declarations.proofs.twins.has_twin_keys.Given as goal

abbrev pub invariant-loop-rest : goal.invariant-loop-rest
invariant-loop-rest l = has_twin_keys (map case_of l.rest) ≡ has_twin_keys (map case_of l.cases)

abbrev pub decreases-loop-rest : goal.decreases-loop-rest
decreases-loop-rest l = length l.rest
