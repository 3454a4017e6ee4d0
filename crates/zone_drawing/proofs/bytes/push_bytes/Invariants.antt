use Rattle.zone_drawing.proofs.Cited.{◌≡◌, ◌++◌, ◌+◌, [], drop, length, bytes_text, rows, rows_text}
use Rattle.zone_drawing.proofs.bytes.push_bytes.Given as goal

-- what is written, before the row that is begun and the bytes that are still to come; and where that row begins
abbrev pub invariant-loop-byte : goal.invariant-loop-byte
invariant-loop-byte l = (l.text.items ++ rows_text l.from (rows l.row.items (drop l.byte-index l.bytes))
    ≡ l.fn.text.items ++ bytes_text l.bytes)
    × (l.from + length l.row.items ≡ l.byte-index)
