use Rattle.script_text.proofs.Cited.{◌≡◌, ◌+◌, ◌≤◌, length, lines, read_from, no_lines}
use Rattle.script_text.proofs.script.read_lines.Given as goal

-- the lines that are still to be read, from those so far on, give what the whole text gives
abbrev pub invariant-loop-rest : goal.invariant-loop-rest
invariant-loop-rest l = (l.number + length l.rest ≤ length l.text)
    × (read_from (l.number + 1) l.reader (lines l.rest) ≡ read_from 1 no_lines (lines l.text))

abbrev pub decreases-loop-rest : goal.decreases-loop-rest
decreases-loop-rest l = length l.rest
