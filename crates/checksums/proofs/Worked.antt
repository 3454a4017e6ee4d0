use Rattle.std.proofs.Common.{◌≡◌, [], ◌∷◌, refl}
use Rattle.std.specs.Prelude.{codes}
use Rattle.checksums.specs.Checksum.{with_bits, checksum}

-- the check value of CRC-16/XMODEM, of the text 123456789
check_value : checksum (codes "123456789") ≡ 0x31C3
unfolding with_bits
check_value = refl

-- other checksums, as Python's binascii.crc_hqx reckons them: of the text A, and of the bytes 00 80 FF
other_sums : (checksum (65 ∷ []) ≡ 22757) × (checksum (0 ∷ 128 ∷ 255 ∷ []) ≡ 1384) × (checksum [] ≡ 0)
unfolding with_bits
other_sums = (refl, refl, refl)
