use Rattle.fork_edits.proofs.Cited.{◌≡◌, length, drop, slice_split, words_value, is_comma}
use Rattle.fork_edits.proofs.attributes.read_words.Given as goal

abbrev pub invariant-loop-word : goal.invariant-loop-word
invariant-loop-word l = words_value l.attrs (drop (length l.yielded) (slice_split is_comma l.text))
    ≡ words_value 0 (slice_split is_comma l.text)
