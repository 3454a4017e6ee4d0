use Rattle.std.proofs.Common.{◌≡◌, drop}
use Rattle.checksums.specs.Checksum.{with_bytes, checksum}
use Rattle.checksums.proofs.checksum_of.Given as goal

-- the bytes that are left give the checksum of all
abbrev pub invariant-loop-byte : goal.invariant-loop-byte
invariant-loop-byte l = with_bytes l.sum (drop l.byte-index l.bytes) ≡ checksum l.fn.bytes
