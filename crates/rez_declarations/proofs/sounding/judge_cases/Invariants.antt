use Rattle.rez_declarations.proofs.Cited.{◌≡◌, drop, map, blocks_of, place_of, case_of, cases_judged}
use Rattle.rez_declarations.proofs.sounding.judge_cases.Given as goal

-- the cases to come are judged as all are
abbrev pub invariant-loop-case : goal.invariant-loop-case
invariant-loop-case l =
    cases_judged (blocks_of l.blocks) l.shapes (place_of l.place) (map case_of (drop l.case-index l.cases)) l.judged
    ≡ cases_judged (blocks_of l.blocks) l.shapes (place_of l.place) (map case_of l.cases) l.fn.shape
