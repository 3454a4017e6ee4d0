use Rattle.fork_edits.proofs.Cited.{◌≡◌, ◌++◌, drop, flat_map, char_text}
use Rattle.fork_edits.proofs.texts.push_chars.Given as goal

abbrev pub invariant-loop-byte : goal.invariant-loop-byte
invariant-loop-byte l =
    l.text.items ++ flat_map (char_text l.charset) (drop l.byte-index l.bytes) ≡ l.fn.text.items ++ flat_map (char_text l.charset) l.bytes
