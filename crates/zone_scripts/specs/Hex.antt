use Rattle.std.specs.Prelude.{ℕ, ◌+◌, ◌/◌, ◌%◌, nat_lt, List, [], ◌∷◌, if◌then◌else◌}

-- Addresses in hexadecimal.

-- A digit in hexadecimal, and the one of a number that counts so many.
abbrev pub hex_digit : ℕ → ℕ
hex_digit digit = if nat_lt digit 10 then 48 + digit else 55 + digit

unfoldable pub digit_at : ℕ → ℕ → ℕ
digit_at number unit = hex_digit (number / unit % 16)

-- The eight hexadecimal digits of an address.
unfoldable pub hex_text : ℕ → List ℕ
hex_text n =
    digit_at n 0x10000000 ∷ digit_at n 0x1000000 ∷ digit_at n 0x100000 ∷ digit_at n 0x10000 ∷ digit_at n 0x1000
    ∷ digit_at n 0x100 ∷ digit_at n 0x10 ∷ digit_at n 1 ∷ []
