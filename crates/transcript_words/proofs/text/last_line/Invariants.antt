use Rattle.transcript_words.proofs.Cited.{◌≡◌, [], length, lines, last_line}
use Rattle.transcript_words.proofs.text.last_line.Given as goal

-- the last line is the last of those of the text that is left, or this one
abbrev pub invariant-loop-last : goal.invariant-loop-last
invariant-loop-last l = last_line l.last (lines l.rest) ≡ last_line [] (lines l.told)

abbrev pub decreases-loop-last : goal.decreases-loop-last
decreases-loop-last l = length l.rest
