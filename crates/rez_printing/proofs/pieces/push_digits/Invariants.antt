use Rattle.rez_printing.proofs.Cited.{◌≡◌, ◌++◌, drop, flat_map, byte_hex}
use Rattle.rez_printing.proofs.pieces.push_digits.Given as goal

-- the bytes so far, with those to come, are all
abbrev pub invariant-loop-byte : goal.invariant-loop-byte
invariant-loop-byte l = l.out.items ++ flat_map byte_hex (drop l.byte-index l.bytes) ≡ l.fn.out.items ++ flat_map byte_hex l.bytes
