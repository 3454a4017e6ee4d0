use Rattle.mac_roman.proofs.Cited.{◌≡◌, ◌++◌, drop, string_bytes, from_roman}
use Rattle.mac_roman.proofs.roman.from_roman.Given as goal

abbrev pub invariant-loop-byte : goal.invariant-loop-byte
invariant-loop-byte l = string_bytes l.text ++ from_roman (drop l.byte-index l.bytes) ≡ from_roman l.bytes
