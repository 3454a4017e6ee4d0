use Rattle.std.specs.Prelude.{ℕ, ◌/◌, ◌%◌, List, [], ◌∷◌, decimal}
use Rattle.mac_words.specs.Digits.{upper_digit}
use Rattle.zone_drawing.specs.declared.digits.Digits.{Digits}
use Rattle.zone_drawing.specs.declared.digits.Digits.TheVariants as digits

-- Distances and sizes as they are written: in decimal, or in hexadecimal.

-- The digit of a number that counts so many.
unfoldable pub digit_at : ℕ → ℕ → ℕ
digit_at number unit = upper_digit (number / unit % 16)

-- The last eight hexadecimal digits of a number. A zone has less than 2 ^ 32 bytes.
unfoldable pub hex_digits : ℕ → List ℕ
hex_digits n =
    digit_at n 0x10000000 ∷ digit_at n 0x1000000 ∷ digit_at n 0x100000 ∷ digit_at n 0x10000 ∷ digit_at n 0x1000
    ∷ digit_at n 0x100 ∷ digit_at n 0x10 ∷ digit_at n 1 ∷ []

-- A distance or a size.
abbrev pub size_text : Digits → ℕ → List ℕ
size_text digits.Decimal n = decimal n
size_text digits.Hexadecimal n = hex_digits n
