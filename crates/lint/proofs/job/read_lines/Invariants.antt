use Rattle.lint.proofs.Cited.{◌≡◌, ◌+◌, ◌≤◌, ◌++◌, length, map, lines, nothing, job_faults_from, left_by, seen}
use Rattle.lint.proofs.job.read_lines.Given as goal

-- the lines that are still to be read leave what all of them leave, and their faults, after those so far, are all faults
abbrev pub invariant-loop-rest : goal.invariant-loop-rest
invariant-loop-rest l = (l.number + length l.rest ≤ length l.text)
    × (left_by l.above (lines l.rest) ≡ left_by nothing (lines l.text))
    × (map seen l.faults.items ++ job_faults_from (l.number + 1) l.above (lines l.rest)
    ≡ map seen l.fn.faults.items ++ job_faults_from 1 nothing (lines l.text))

abbrev pub decreases-loop-rest : goal.decreases-loop-rest
decreases-loop-rest l = length l.rest
