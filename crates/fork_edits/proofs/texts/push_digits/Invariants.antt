use Rattle.fork_edits.proofs.Cited.{◌≡◌, ◌++◌, drop, flat_map, hex_byte}
use Rattle.fork_edits.proofs.texts.push_digits.Given as goal

abbrev pub invariant-loop-byte : goal.invariant-loop-byte
invariant-loop-byte l =
    l.text.items ++ flat_map hex_byte (drop l.byte-index l.bytes) ≡ l.fn.text.items ++ flat_map hex_byte l.bytes
