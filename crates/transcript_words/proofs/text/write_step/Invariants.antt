use Rattle.transcript_words.proofs.Cited.{◌≡◌, ◌++◌, [], length, lines, view_lines, lines_words}
use Rattle.transcript_words.proofs.text.write_step.Given as goal

-- what is written, before the lines of the text that is left
abbrev pub invariant-loop-rest : goal.invariant-loop-rest
invariant-loop-rest l = l.text.items ++ lines_words (view_lines l.source) l.between (lines l.rest)
    ≡ l.fn.text.items ++ lines_words (view_lines l.source) [] (lines l.told)

abbrev pub decreases-loop-rest : goal.decreases-loop-rest
decreases-loop-rest l = length l.rest
