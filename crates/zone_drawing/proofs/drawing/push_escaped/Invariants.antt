use Rattle.zone_drawing.proofs.Cited.{◌≡◌, ◌++◌, drop, escaped}
use Rattle.zone_drawing.proofs.drawing.push_escaped.Given as goal

-- what is written, before the bytes that are still to be written
abbrev pub invariant-loop-byte : goal.invariant-loop-byte
invariant-loop-byte l = l.text.items ++ escaped (drop l.byte-index l.bytes) ≡ l.fn.text.items ++ escaped l.bytes
