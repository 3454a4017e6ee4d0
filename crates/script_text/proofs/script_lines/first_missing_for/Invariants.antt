use Rattle.script_text.proofs.Cited.{◌≡◌, drop, map, first_missing, statement}
use Rattle.script_text.proofs.script_lines.first_missing_for.Given as goal

-- the lines that are still to be looked at give what all of them give
abbrev pub invariant-loop-line : goal.invariant-loop-line
invariant-loop-line l = first_missing l.above (map statement (drop l.line-index l.lines)) ≡ first_missing l.above
    (map statement l.lines)
