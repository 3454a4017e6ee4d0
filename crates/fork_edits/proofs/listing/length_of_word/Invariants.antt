use Rattle.fork_edits.proofs.Cited.{◌≡◌, ◌+◌, drop, word_length}
use Rattle.fork_edits.proofs.listing.length_of_word.Given as goal

-- no blank stands among the bytes so far
abbrev pub invariant-loop-i : goal.invariant-loop-i
invariant-loop-i l = l.i + word_length (drop l.i l.text) ≡ word_length l.text
