use Rattle.zone_drawing.proofs.Cited.{◌≡◌, ◌++◌, map, drop, byte_character}
use Rattle.zone_drawing.proofs.bytes.push_characters.Given as goal

-- what is written, before the bytes that are still to be written
abbrev pub invariant-loop-byte : goal.invariant-loop-byte
invariant-loop-byte l = l.text.items ++ map byte_character (drop l.byte-index l.row)
    ≡ l.fn.text.items ++ map byte_character l.row
