use Rattle.rez_declarations.proofs.Cited.{◌≡◌, drop, map, case_of, least_case}
use Rattle.rez_declarations.proofs.sounding.least_case.Given as goal

-- the fewest bytes with the cases to come are those of all
abbrev pub invariant-loop-case : goal.invariant-loop-case
invariant-loop-case l = least_case l.least l.shapes (map case_of (drop l.case-index l.cases))
    ≡ least_case 16777217 l.shapes (map case_of l.cases)
