use Rattle.std.specs.Prelude.{ℕ, ◌+◌, ◌-◌, ◌/◌, ◌%◌, nat_lt, List, [], ◌∷◌, ◌++◌, length, replicate, codes, decimal, if◌then◌else◌}
use Rattle.real_zone_view.specs.declared.style.Fields.{Fields}
use Rattle.real_zone_view.specs.declared.style.Fields.TheVariants as fields
use Rattle.real_zone_view.specs.declared.style.Digits.{Digits}
use Rattle.real_zone_view.specs.declared.style.Digits.TheVariants as digits
use Rattle.real_zone_view.specs.declared.style.Style.{Style}

-- The fields of a line: in columns, or with tabs between them.

-- A digit in hexadecimal, and the one of a number that counts so many.
abbrev pub hex_digit : ℕ → ℕ
hex_digit digit = if nat_lt digit 10 then 48 + digit else 55 + digit

unfoldable pub digit_at : ℕ → ℕ → ℕ
digit_at number unit = hex_digit (number / unit % 16)

-- The last eight hexadecimal digits of a number. An address has eight, and so has a size.
unfoldable pub hex_text : ℕ → List ℕ
hex_text n =
    digit_at n 0x10000000 ∷ digit_at n 0x1000000 ∷ digit_at n 0x100000 ∷ digit_at n 0x10000 ∷ digit_at n 0x1000
    ∷ digit_at n 0x100 ∷ digit_at n 0x10 ∷ digit_at n 1 ∷ []

-- A field with blanks after it, and with blanks before it, so that columns of this many bytes line up.
unfoldable pub left : ℕ → List ℕ → List ℕ
left width field = field ++ replicate (width - length field) 32

unfoldable pub right : ℕ → List ℕ → List ℕ
right width field = replicate (width - length field) 32 ++ field

-- The first field of a line, and a further one, whose column is aligned on the left or on the right.
unfoldable pub first_field : Fields → ℕ → List ℕ → List ℕ
first_field fields.Columns width field = left width field
first_field fields.Tabs width field = field

unfoldable pub left_field : Fields → ℕ → List ℕ → List ℕ
left_field fields.Columns width field = codes " " ++ left width field
left_field fields.Tabs width field = codes "\t" ++ field

unfoldable pub right_field : Fields → ℕ → List ℕ → List ℕ
right_field fields.Columns width field = right width field
right_field fields.Tabs width field = codes "\t" ++ field

-- A field with eight hexadecimal digits.
unfoldable pub hex_field : Fields → ℕ → ℕ → List ℕ
hex_field fields.Columns width n = replicate (width - 8) 32 ++ hex_text n
hex_field fields.Tabs width n = codes "\t" ++ hex_text n

-- The field of a size: in decimal, or in hexadecimal.
unfoldable pub size_with : Digits → Fields → ℕ → ℕ → List ℕ
size_with digits.Decimal f width n = right_field f width (decimal n)
size_with digits.Hexadecimal f width n = hex_field f width n

abbrev pub size_field : Style → ℕ → ℕ → List ℕ
size_field style width n = size_with style.digits style.fields width n
