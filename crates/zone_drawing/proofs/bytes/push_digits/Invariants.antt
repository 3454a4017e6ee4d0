use Rattle.zone_drawing.proofs.Cited.{◌≡◌, ◌++◌, drop, flat_map, byte_digits}
use Rattle.zone_drawing.proofs.bytes.push_digits.Given as goal

-- what is written, before the bytes that are still to be written
abbrev pub invariant-loop-byte : goal.invariant-loop-byte
invariant-loop-byte l = l.text.items ++ flat_map byte_digits (drop l.byte-index l.row)
    ≡ l.fn.text.items ++ flat_map byte_digits l.row
