use Rattle.rez_declarations.proofs.Cited.{◌≡◌, length, map, text_of, has_twins, text_names}
use Rattle.rez_declarations.proofs.twins.has_twin_texts.Given as goal

abbrev pub invariant-loop-rest : goal.invariant-loop-rest
invariant-loop-rest l = has_twins (text_names (map text_of l.rest)) ≡ has_twins (text_names (map text_of l.constants))

abbrev pub decreases-loop-rest : goal.decreases-loop-rest
decreases-loop-rest l = length l.rest
