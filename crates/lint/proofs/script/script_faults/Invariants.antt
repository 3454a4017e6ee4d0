use Rattle.lint.proofs.Cited.{◌≡◌, ◌+◌, ◌≤◌, ◌++◌, length, map, lines, no_lines, faults_from, seen}
use Rattle.lint.proofs.script.script_faults.Given as goal

-- the faults so far, and those of the lines that are still to be read, are those of the whole text
abbrev pub invariant-loop-rest : goal.invariant-loop-rest
invariant-loop-rest l = (l.number + length l.rest ≤ length l.text)
    × (map seen l.faults.items ++ faults_from (l.number + 1) l.above (lines l.rest) ≡ faults_from 1 no_lines (lines l.text))

abbrev pub decreases-loop-rest : goal.decreases-loop-rest
decreases-loop-rest l = length l.rest
