use Rattle.std.specs.Prelude.{ℕ, ◌+◌, ◌-◌, ◌*◌, ◌%◌, ◌==◌, nat_le, nat_lt, Bool, ◌&&◌, ◌||◌, bytes_eq, codes, length, take, drop}
use Rattle.std.specs.Prelude.{Option, Some, None, List, [], ◌∷◌, ◌++◌, if◌then◌else◌}
use Rattle.rez_tokens.specs.declared.mode.Radix.{Radix}
use Rattle.rez_tokens.specs.declared.mode.Radix.TheVariants as radix

-- Bytes, digits, and the comment that states the bytes of a fill.

abbrev pub ends_line : ℕ → Bool
ends_line b = b == 10 || b == 13

-- A blank, or the end of a line.
abbrev pub is_blank : ℕ → Bool
is_blank b = b == 32 || b == 9 || b == 10 || b == 13

abbrev pub is_digit : ℕ → Bool
is_digit b = nat_le 48 b && nat_le b 57

abbrev pub is_letter : ℕ → Bool
is_letter b = (nat_le 65 b && nat_le b 90) || (nat_le 97 b && nat_le b 122) || b == 95

-- The value of a hexadecimal digit, in upper or lower case.
abbrev pub hex_value : ℕ → Option ℕ
hex_value c =
    if nat_le 48 c && nat_le c 57 then Some (c - 48)
    else if nat_le 65 c && nat_le c 70 then Some (c - 55)
    else if nat_le 97 c && nat_le c 102 then Some (c - 87)
    else None

-- How many digits there are.
abbrev pub base : Radix → ℕ
base radix.Binary = 2
base radix.Octal = 8
base radix.Decimal = 10
base radix.Hexadecimal = 16

-- A value below n.
abbrev pub below : ℕ → Option ℕ → Option ℕ
below n None = None
below n (Some d) = if nat_lt d n then Some d else None

-- The value of a digit of a radix.
abbrev pub digit_in : Radix → ℕ → Option ℕ
digit_in r b = below (base r) (hex_value b)

-- The byte of two hexadecimal digits.
abbrev pub byte_of : ℕ → ℕ → ℕ
byte_of high low = (16 * high + low) % 256

-- The bytes that hexadecimal digits write, two for each byte, with any blanks between digits: after the bytes so far,
-- and the high digit that waits for its low one.
abbrev pub hex_from : Option ℕ → List ℕ → List ℕ → Option (List ℕ)
hex_from None bytes [] = Some bytes
hex_from (Some high) bytes [] = None
hex_from None bytes (c ∷ rest) =
    if is_blank c then hex_from None bytes rest
    else elim (hex_value c) [ None ↦ None | Some high ↦ hex_from (Some high) bytes rest ]
hex_from (Some high) bytes (c ∷ rest) =
    if is_blank c then hex_from (Some high) bytes rest
    else elim (hex_value c) [ None ↦ None | Some low ↦ hex_from None (bytes ++ byte_of high low ∷ []) rest ]

-- A text without the blanks with which it begins.
abbrev pub after_blanks : List ℕ → List ℕ
after_blanks [] = []
after_blanks (b ∷ bytes) = if is_blank b then after_blanks bytes else b ∷ bytes

-- The text begins with the words.
abbrev pub begins : List ℕ → List ℕ → Bool
begins words text = nat_le (length words) (length text) && bytes_eq (take (length words) text) words

-- 1 to 256 bytes.
abbrev pub of_fill : Option (List ℕ) → Option (List ℕ)
of_fill None = None
of_fill (Some bytes) = if nat_le 1 (length bytes) && nat_le (length bytes) 256 then Some bytes else None

-- The bytes of a fill after the word `fill`, and `$`.
unfoldable pub fill_digits : List ℕ → Option (List ℕ)
fill_digits text = if begins (codes "$") text then of_fill (hex_from None [] (drop 1 text)) else None

-- The bytes of a fill that a comment states: the word `fill`, `$`, and 1 to 256 bytes in hexadecimal, with any blanks before and after
-- each.
unfoldable pub fill_word : List ℕ → Option (List ℕ)
fill_word text = if begins (codes "fill") text then fill_digits (after_blanks (drop 4 text)) else None

unfoldable pub filled : List ℕ → Option (List ℕ)
filled text = fill_word (after_blanks text)
