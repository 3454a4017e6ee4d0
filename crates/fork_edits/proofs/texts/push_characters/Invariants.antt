use Rattle.fork_edits.proofs.Cited.{◌≡◌, ◌++◌, drop, flat_map, character}
use Rattle.fork_edits.proofs.texts.push_characters.Given as goal

abbrev pub invariant-loop-byte : goal.invariant-loop-byte
invariant-loop-byte l =
    l.text.items ++ flat_map character (drop l.byte-index l.bytes) ≡ l.fn.text.items ++ flat_map character l.bytes
