use Rattle.std.specs.Prelude.{ℕ, ◌+◌, ◌==◌, nat_le, nat_lt, Bool, not, ◌&&◌, ◌||◌, Option, Some, None, if◌then◌else◌}
use Rattle.rez_text.specs.declared.mode.Quote.{Quote}
use Rattle.rez_text.specs.declared.mode.Quote.TheVariants as quotes
use Rattle.rez_text.specs.declared.mode.Radix.{Radix}
use Rattle.rez_text.specs.declared.mode.Radix.TheVariants as radix
use Rattle.rez_text.specs.Remarks.{hex_value}

-- Bytes, quotes and digits.

abbrev pub ends_line : ℕ → Bool
ends_line b = b == 10 || b == 13

-- The number of the line on which a byte stands, from that of the byte before it: CR, LF, and CR with LF, each end a line.
abbrev pub line_of : ℕ → ℕ → ℕ → ℕ
line_of line before b = if before == 10 || (before == 13 && not (b == 10)) then line + 1 else line

abbrev pub is_digit : ℕ → Bool
is_digit b = nat_le 48 b && nat_le b 57

abbrev pub is_letter : ℕ → Bool
is_letter b = (nat_le 65 b && nat_le b 90) || (nat_le 97 b && nat_le b 122) || b == 95

-- A letter, or the `#` of a directive.
abbrev pub begins_word : ℕ → Bool
begins_word b = is_letter b || b == 35

-- The byte of a quote.
abbrev pub quote_byte : Quote → ℕ
quote_byte quotes.Double = 34
quote_byte quotes.Single = 39

-- How many digits there are.
abbrev pub base : Radix → ℕ
base radix.Binary = 2
base radix.Octal = 8
base radix.Decimal = 10
base radix.Hexadecimal = 16

-- A value below n.
abbrev pub below : ℕ → Option ℕ → Option ℕ
below n None = None
below n (Some d) = if nat_lt d n then Some d else None

-- The value of a digit of a radix.
abbrev pub digit_in : Radix → ℕ → Option ℕ
digit_in r b = below (base r) (hex_value b)
