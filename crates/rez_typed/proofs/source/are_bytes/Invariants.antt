use Rattle.rez_typed.proofs.Cited.{◌≡◌, drop, list_all, is_byte}
use Rattle.rez_typed.proofs.source.are_bytes.Given as goal

-- those to come are bytes if all are
abbrev pub invariant-loop-byte : goal.invariant-loop-byte
invariant-loop-byte l = list_all is_byte (drop l.byte-index l.text) ≡ list_all is_byte l.text
