use Rattle.std.specs.Prelude.{ℕ, ◌+◌, ◌-◌, ◌*◌, ◌==◌, nat_le, nat_lt, ◌||◌, List, Option, Some, None, Result, Ok, Err, if◌then◌else◌}
use Rattle.rez_tokens.specs.declared.fault.TokenFault.{TokenFault}
use Rattle.rez_tokens.specs.declared.fault.TokenFault.TheVariants as faults
use Rattle.rez_tokens.specs.declared.mode.Quote.{Quote}
use Rattle.rez_tokens.specs.declared.mode.Quote.TheVariants as quotes
use Rattle.rez_tokens.specs.declared.mode.Radix.{Radix}
use Rattle.rez_tokens.specs.declared.mode.Radix.TheVariants as radix
use Rattle.rez_tokens.specs.declared.mode.Name.{Name}
use Rattle.rez_tokens.specs.declared.mode.Name.TheVariants as name
use Rattle.rez_tokens.specs.declared.mode.Mode.{Mode}
use Rattle.rez_tokens.specs.declared.mode.Mode.TheVariants as mode
use Rattle.rez_tokens.specs.Tokens.{Lexeme, Word, Number, Text, Hex, Literal, Function, Mark, Filled}
use Rattle.rez_tokens.specs.Digits.{ends_line, is_blank, is_digit, is_letter, hex_value, base, digit_in, byte_of, filled}
use Rattle.rez_tokens.specs.State.{State, in_mode, gather, passed, with_token}

-- The tokens of a text, byte by byte. A token that another byte ends (a word, a number, a `/`) is taken in before that byte.

-- The byte of a quote.
abbrev pub quote_byte : Quote → ℕ
quote_byte quotes.Double = 34
quote_byte quotes.Single = 39

-- Between tokens: a blank, the first byte of a token, or a mark.
unfoldable pub between : ℕ → State → State
between b s =
    if is_blank b then s
    else if b == 47 then in_mode mode.Slash s
    else if b == 34 then in_mode (mode.Quoted quotes.Double) s
    else if b == 39 then in_mode (mode.Quoted quotes.Single) s
    else if b == 36 then in_mode mode.Dollar s
    else if b == 48 then in_mode mode.Zero s
    else if is_digit b then in_mode (mode.Number radix.Decimal (b - 48)) s
    else if is_letter b then gather b (mode.Name name.Word) s
    else with_token (Mark b) s

-- After a `/`.
unfoldable pub slash : ℕ → State → State
slash b s =
    if b == 42 then in_mode mode.Comment s
    else if b == 47 then in_mode mode.LineComment s
    else between b (with_token (Mark 47) s)

-- In a comment that `*/` ends.
unfoldable pub in_comment : ℕ → State → State
in_comment b s = if b == 42 then in_mode mode.Star s else gather b mode.Comment s

-- A comment states the bytes of a fill, or nothing.
abbrev pub stated : Option (List ℕ) → State → State
stated None s = passed s
stated (Some bytes) s = with_token (Filled bytes) s

-- A comment ends.
unfoldable pub comment : State → State
comment s = stated (filled s.gathered) s

-- In such a comment, after a `*`.
unfoldable pub star : ℕ → State → State
star b s =
    if b == 47 then comment s
    else if b == 42 then gather 42 mode.Star s
    else gather b mode.Comment (gather 42 mode.Star s)

-- In a comment that the line's end ends.
unfoldable pub line_comment : ℕ → State → State
line_comment b s = if ends_line b then in_mode mode.Between s else s

-- What a word is, or a name after `$$`.
abbrev pub named : Name → List ℕ → Lexeme
named name.Word bytes = Word bytes
named name.Function bytes = Function bytes

-- In a word, or in a name after `$$`.
unfoldable pub in_name : Name → ℕ → State → State
in_name n b s =
    if is_letter b || is_digit b then gather b (mode.Name n) s
    else between b (with_token (named n s.gathered) s)

-- A number of 32 bits with one more digit.
abbrev pub grown : Radix → ℕ → State → Result State TokenFault
grown r n s = if nat_lt 4294967295 n then Err faults.NumberOutOfRange else Ok (in_mode (mode.Number r n) s)

-- One more byte of a number.
abbrev pub number_on : Option ℕ → Radix → ℕ → ℕ → State → Result State TokenFault
number_on (Some d) r n b s = grown r (base r * n + d) s
number_on None r n b s = Ok (between b (with_token (Number n) s))

-- In a number.
unfoldable pub number : Radix → ℕ → ℕ → State → Result State TokenFault
number r n b s = number_on (digit_in r b) r n b s

-- The first digit of a number.
abbrev pub by_digit : TokenFault → Radix → Option ℕ → State → Result State TokenFault
by_digit fault r None s = Err fault
by_digit fault r (Some d) s = Ok (in_mode (mode.Number r d) s)

-- After `0x` or `0b`.
unfoldable pub prefixed : Radix → ℕ → State → Result State TokenFault
prefixed r b s = by_digit faults.DigitNeeded r (digit_in r b) s

-- After a 0 with which a number begins.
unfoldable pub zero_begun : ℕ → State → Result State TokenFault
zero_begun b s =
    if b == 120 || b == 88 then Ok (in_mode (mode.Prefixed radix.Hexadecimal) s)
    else if b == 98 || b == 66 then Ok (in_mode (mode.Prefixed radix.Binary) s)
    else number radix.Decimal 0 b s

-- After a `$`.
unfoldable pub dollar : ℕ → State → Result State TokenFault
dollar b s =
    if b == 34 then Ok (in_mode mode.HexString s)
    else if b == 36 then Ok (in_mode mode.Dollars s)
    else by_digit faults.HexadecimalNeeded radix.Hexadecimal (digit_in radix.Hexadecimal b) s

-- After `$$`.
unfoldable pub dollars : ℕ → State → Result State TokenFault
dollars b s = if is_letter b then Ok (gather b (mode.Name name.Function) s) else Err faults.NameNeeded

-- A digit of a hexadecimal string: the high one of a byte, or the low one.
abbrev pub high_digit : Option ℕ → State → Result State TokenFault
high_digit None s = Err faults.NotADigit
high_digit (Some d) s = Ok (in_mode (mode.HexHalf d) s)

abbrev pub low_digit : Option ℕ → ℕ → State → Result State TokenFault
low_digit None high s = Err faults.NotADigit
low_digit (Some d) high s = Ok (gather (byte_of high d) mode.HexString s)

-- In a hexadecimal string, between bytes.
unfoldable pub hex_string : ℕ → State → Result State TokenFault
hex_string b s =
    if b == 34 then Ok (with_token (Hex s.gathered) s)
    else if is_blank b then Ok s
    else high_digit (hex_value b) s

-- In a hexadecimal string, after the high digit of a byte.
unfoldable pub hex_half : ℕ → ℕ → State → Result State TokenFault
hex_half high b s =
    if b == 34 then Err faults.OddDigits
    else if is_blank b then Ok s
    else low_digit (hex_value b) high s

-- What stands between quotes.
abbrev pub quoted_by : Quote → List ℕ → Lexeme
quoted_by quotes.Double bytes = Text bytes
quoted_by quotes.Single bytes = Literal bytes

-- Between quotes.
unfoldable pub quoted : Quote → ℕ → State → Result State TokenFault
quoted q b s =
    if b == quote_byte q then Ok (with_token (quoted_by q s.gathered) s)
    else if b == 92 then Ok (in_mode (mode.Escape q) s)
    else if ends_line b then Err faults.OpenString
    else Ok (gather b (mode.Quoted q) s)

-- The byte that an escape of one character stands for.
abbrev pub escaped : ℕ → Option ℕ
escaped b =
    if b == 110 then Some 13
    else if b == 114 then Some 10
    else if b == 116 then Some 9
    else if b == 98 then Some 8
    else if b == 102 then Some 12
    else if b == 118 then Some 11
    else if b == 63 then Some 127
    else if b == 34 || b == 39 || b == 92 then Some b
    else None

-- A byte by its number, of which so many digits were to come, and one came.
abbrev pub escape_grown : Quote → Radix → ℕ → ℕ → State → Result State TokenFault
escape_grown q r left n s =
    if nat_lt 255 n then Err faults.EscapeOutOfRange
    else if nat_le left 1 then Ok (gather n (mode.Quoted q) s)
    else Ok (in_mode (mode.EscapeNumber q r (left - 1) n) s)

abbrev pub escape_on : Option ℕ → Quote → Radix → ℕ → ℕ → State → Result State TokenFault
escape_on None q r left n s = Err faults.NotAnEscape
escape_on (Some d) q r left n s = escape_grown q r left (base r * n + d) s

-- In an escape by a number.
unfoldable pub escape_number : Quote → Radix → ℕ → ℕ → ℕ → State → Result State TokenFault
escape_number q r left n b s = escape_on (digit_in r b) q r left n s

-- An escape of one character, or three octal digits.
abbrev pub escape_by : Option ℕ → Quote → ℕ → State → Result State TokenFault
escape_by (Some c) q b s = Ok (gather c (mode.Quoted q) s)
escape_by None q b s = escape_number q radix.Octal 3 0 b s

-- After a `\`.
unfoldable pub escape : Quote → ℕ → State → Result State TokenFault
escape q b s =
    if b == 48 then Ok (in_mode (mode.EscapeZero q) s)
    else if b == 36 then Ok (in_mode (mode.EscapeNumber q radix.Hexadecimal 2 0) s)
    else escape_by (escaped b) q b s

-- After `\0`.
unfoldable pub escape_zero : Quote → ℕ → State → Result State TokenFault
escape_zero q b s =
    if b == 120 || b == 88 then Ok (in_mode (mode.EscapeNumber q radix.Hexadecimal 2 0) s)
    else if b == 98 then Ok (in_mode (mode.EscapeNumber q radix.Binary 8 0) s)
    else if b == 100 then Ok (in_mode (mode.EscapeNumber q radix.Decimal 3 0) s)
    else escape_number q radix.Octal 2 0 b s

-- One more byte.
abbrev pub step_in : Mode → ℕ → State → Result State TokenFault
step_in mode.Between b s = Ok (between b s)
step_in mode.Slash b s = Ok (slash b s)
step_in mode.Comment b s = Ok (in_comment b s)
step_in mode.Star b s = Ok (star b s)
step_in mode.LineComment b s = Ok (line_comment b s)
step_in (mode.Name n) b s = Ok (in_name n b s)
step_in mode.Zero b s = zero_begun b s
step_in (mode.Prefixed r) b s = prefixed r b s
step_in (mode.Number r n) b s = number r n b s
step_in mode.Dollar b s = dollar b s
step_in mode.Dollars b s = dollars b s
step_in mode.HexString b s = hex_string b s
step_in (mode.HexHalf high) b s = hex_half high b s
step_in (mode.Quoted q) b s = quoted q b s
step_in (mode.Escape q) b s = escape q b s
step_in (mode.EscapeZero q) b s = escape_zero q b s
step_in (mode.EscapeNumber q r left n) b s = escape_number q r left n b s

unfoldable pub step : ℕ → State → Result State TokenFault
step b s = step_in s.mode b s
