use Rattle.std.specs.Prelude.{ℕ, zero, suc, ◌*◌, ◌-◌, List, [], ◌∷◌, if◌then◌else◌, nat_le, bit_xor}

-- The checksum of BinHex files and of MacBinary headers: the cyclic redundancy check of XMODEM and CCITT, of 16 bits, with
-- the polynomial x^16 + x^12 + x^5 + 1 (1021 without its highest term). It begins with 0, and takes the highest bit of a
-- byte first. The two bytes of 0 after each part of a BinHex file, of which RFC 1741, appendix A, speaks, belong to a way
-- of reckoning that shifts each bit in from below; the checksum is the same. MacBinary II Standard (1987), "The Binary
-- Transfer Format", offset 124.

-- The checksum one bit further: it is doubled, and where its highest bit was set, that bit gives way to the polynomial.
abbrev pub with_bit : ℕ → ℕ
with_bit sum = if nat_le 0x8000 sum then bit_xor (2 * (sum - 0x8000)) 0x1021 else 2 * sum

-- The checksum n bits further.
unfoldable pub with_bits : ℕ → ℕ → ℕ
with_bits zero sum = sum
with_bits (suc n) sum = with_bits n (with_bit sum)

-- The checksum one byte further: the byte is combined with the higher byte of the checksum, and eight bits are taken.
abbrev pub with_byte : ℕ → ℕ → ℕ
with_byte sum byte = with_bits 8 (bit_xor sum (256 * byte))

-- The checksum after bytes, from the checksum before them.
abbrev pub with_bytes : ℕ → List ℕ → ℕ
with_bytes sum [] = sum
with_bytes sum (byte ∷ bytes) = with_bytes (with_byte sum byte) bytes

-- The checksum of bytes.
abbrev pub checksum : List ℕ → ℕ
checksum bytes = with_bytes 0 bytes
