use Rattle.rez_printing.proofs.Cited.{◌≡◌, ◌++◌, drop, hex_from}
use Rattle.rez_printing.proofs.pieces.push_hex_bytes.Given as goal

-- the bytes so far, with those to come, are all
abbrev pub invariant-loop-i : goal.invariant-loop-i
invariant-loop-i l = l.out.items ++ hex_from l.i (drop l.i l.bytes) ≡ l.fn.out.items ++ hex_from 0 l.bytes
