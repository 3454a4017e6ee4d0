use Rattle.transcript_words.proofs.Cited.{◌≡◌, ◌++◌, map, length, source}
use Rattle.transcript_words.proofs.source.source_of.Given as goal

-- the lines so far, before those of the text that is left
abbrev pub invariant-loop-rest : goal.invariant-loop-rest
invariant-loop-rest l = map (λ line. line.now) l.lines.items ++ source l.rest ≡ source l.text

abbrev pub decreases-loop-rest : goal.decreases-loop-rest
decreases-loop-rest l = length l.rest
