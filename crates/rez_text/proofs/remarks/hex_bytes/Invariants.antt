use Rattle.rez_text.proofs.Cited.{◌≡◌, [], None, drop, hex_from}
use Rattle.rez_text.proofs.remarks.hex_bytes.Given as goal

-- the digits that are still to be read give, after the bytes so far, what the whole text gives
abbrev pub invariant-loop-byte : goal.invariant-loop-byte
invariant-loop-byte l = hex_from l.waiting l.bytes.items (drop l.byte-index l.text) ≡ hex_from None [] l.text
