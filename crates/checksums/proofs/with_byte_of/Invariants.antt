use Rattle.std.proofs.Common.{◌≡◌, ◌-◌}
use Rattle.checksums.specs.Checksum.{with_bits, with_byte}
use Rattle.checksums.proofs.with_byte_of.Given as goal

-- the bits that are left give the checksum of the byte
abbrev pub invariant-loop : goal.invariant-loop
invariant-loop l = with_bits (8 - l.counter) l.combined ≡ with_byte l.fn.sum l.fn.byte
