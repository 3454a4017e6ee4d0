use Rattle.script_text.proofs.Cited.{◌≡◌, ◌+◌, ◌≤◌, length, lines, with_lines, nothing}
use Rattle.script_text.proofs.job.read_lines.Given as goal

-- the lines that are still to be read, from those so far on, give what the whole text gives
abbrev pub invariant-loop-rest : goal.invariant-loop-rest
invariant-loop-rest l = (l.number + length l.rest ≤ length l.text)
    × (with_lines (l.number + 1) l.reader (lines l.rest) ≡ with_lines 1 nothing (lines l.text))

abbrev pub decreases-loop-rest : goal.decreases-loop-rest
decreases-loop-rest l = length l.rest
