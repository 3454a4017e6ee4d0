use Rattle.mac_roman.proofs.Cited.{◌≡◌, [], ◌∷◌, refl, None, Ok, Err, char_of, byte_of, bytes_of, from_roman}

-- Worked examples, checked on the definitions alone.

-- the no-break space, the euro sign and the apple
three : (char_of 0xCA ≡ 0xA0) × (char_of 0xDB ≡ 0x20AC) × (char_of 0xF0 ≡ 0xF8FF)
three = (refl, refl, refl)

-- the first and the last after ASCII, and one of ASCII
ends : (char_of 0x80 ≡ 0xC4) × (char_of 0xFF ≡ 0x2C7) × (char_of 0x41 ≡ 0x41)
ends = (refl, refl, refl)

-- the currency sign, which Mac OS Roman had until 1998, and a Greek letter
not_roman : (byte_of 0xA4 ≡ None) × (byte_of 0x3B1 ≡ None)
not_roman = (refl, refl)

-- characters to bytes, and the first that has no byte
umlauts : bytes_of (0xC4 ∷ 0x41 ∷ 0xFC ∷ []) ≡ Ok (0x80 ∷ 0x41 ∷ 0x9F ∷ [])
umlauts = refl

refused : bytes_of (0x41 ∷ 0x3B1 ∷ 0x3B2 ∷ []) ≡ Err 0x3B1
refused = refl

-- a bullet in UTF-8
bullet : from_roman (0xA5 ∷ []) ≡ 0xE2 ∷ 0x80 ∷ 0xA2 ∷ []
unfolding lib.Utf8.encode
bullet = refl
