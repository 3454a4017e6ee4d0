use Rattle.std.specs.Prelude.{ℕ, ◌+◌, ◌-◌, ◌*◌, ◌==◌, nat_le, nat_lt, ◌||◌, Option, Some, None, Result, Ok, Err}
use Rattle.std.specs.Prelude.{if◌then◌else◌}
use Rattle.std.specs.Char.{to_ascii_lowercase}
use Rattle.rez_text.specs.declared.fault.FaultKind.{FaultKind}
use Rattle.rez_text.specs.declared.fault.FaultKind.TheVariants as faults
use Rattle.rez_text.specs.declared.mode.Quote.{Quote}
use Rattle.rez_text.specs.declared.mode.Quote.TheVariants as quotes
use Rattle.rez_text.specs.declared.mode.Radix.{Radix}
use Rattle.rez_text.specs.declared.mode.Radix.TheVariants as radix
use Rattle.rez_text.specs.declared.mode.Mode.{Mode}
use Rattle.rez_text.specs.declared.mode.Mode.TheVariants as mode
use Rattle.rez_text.specs.declared.mode.Place.{Place}
use Rattle.rez_text.specs.declared.mode.Place.TheVariants as place
use Rattle.rez_text.specs.State.{State, in_mode, gather, ◌>>=◌}
use Rattle.rez_text.specs.Tokens.{refused, word, type_token, number, string, datum, mark, type_statement, resource_body}
use Rattle.rez_text.specs.declared.scope.Scope.{Scope}
use Rattle.rez_text.specs.Remarks.{is_blank, hex_value, byte_of, comment}
use Rattle.rez_text.specs.Ascii.{ends_line, is_digit, is_letter, begins_word, quote_byte, base, digit_in}
use Rattle.rez_text.specs.Scopes.{ends, scope_step}

-- The tokens of a source, byte by byte. A token that another byte ends (a word, a number) is taken in before that byte.

-- Between tokens: a blank, or the first byte of a token.
unfoldable pub between : ℕ → State → Result State FaultKind
between b s =
    if is_blank b then Ok s
    else if b == 47 then Ok (in_mode mode.Slash s)
    else if b == 34 then Ok (in_mode (mode.Quoted quotes.Double) s)
    else if b == 39 then Ok (in_mode (mode.Quoted quotes.Single) s)
    else if b == 36 then Ok (in_mode mode.Dollar s)
    else if b == 48 then Ok (in_mode mode.Zero s)
    else if is_digit b then Ok (in_mode (mode.Number radix.Decimal (b - 48)) s)
    else if begins_word b then Ok (gather (to_ascii_lowercase b) mode.Word s)
    else mark b s

-- After a `/`.
unfoldable pub slash : ℕ → State → Result State FaultKind
slash b s =
    if b == 42 then Ok (in_mode mode.Comment s)
    else if b == 47 then Ok (in_mode mode.LineComment s)
    else refused s

-- In a comment that `*/` ends.
unfoldable pub in_comment : ℕ → State → Result State FaultKind
in_comment b s = Ok (if b == 42 then in_mode mode.Star s else gather b mode.Comment s)

-- In such a comment, after a `*`.
unfoldable pub star : ℕ → State → Result State FaultKind
star b s =
    if b == 47 then comment s
    else if b == 42 then Ok (gather 42 mode.Star s)
    else Ok (gather b mode.Comment (gather 42 mode.Star s))

-- In a comment that the line's end ends.
unfoldable pub line_comment : ℕ → State → Result State FaultKind
line_comment b s = Ok (if ends_line b then in_mode mode.Between s else s)

-- In the text of a statement `type`, which its semicolon ends.
unfoldable pub declaring : Scope → ℕ → State → Result State FaultKind
declaring at b s =
    if ends 59 0 b at then type_statement (gather b mode.Between s)
    else Ok (gather b (mode.Declaring (scope_step b at)) s)

-- In the text between the braces of a statement `resource`.
unfoldable pub body : Scope → ℕ → State → Result State FaultKind
body at b s = if ends 125 1 b at then resource_body s else Ok (gather b (mode.Body (scope_step b at)) s)

-- The byte after a word, which may have begun a statement `type`.
abbrev pub after_word : Mode → ℕ → State → Result State FaultKind
after_word (mode.Declaring at) b s = declaring at b s
after_word m b s = between b s

-- In a word, which is the same in upper and lower case.
unfoldable pub in_word : ℕ → State → Result State FaultKind
in_word b s =
    if is_letter b || is_digit b then Ok (gather (to_ascii_lowercase b) mode.Word s)
    else (word s >>= λ t. after_word t.mode b t)

-- A number ends before a byte.
abbrev pub number_ended : ℕ → ℕ → State → Result State FaultKind
number_ended n b s = number n s >>= λ t. between b t

-- A number of 32 bits with one more digit.
abbrev pub grown : Radix → ℕ → State → Result State FaultKind
grown r n s = if nat_lt 4294967295 n then Err faults.NumberOutOfRange else Ok (in_mode (mode.Number r n) s)

-- One more byte of a number.
abbrev pub number_on : Option ℕ → Radix → ℕ → ℕ → State → Result State FaultKind
number_on (Some d) r n b s = grown r (base r * n + d) s
number_on None r n b s = number_ended n b s

-- In a number.
unfoldable pub in_number : Radix → ℕ → ℕ → State → Result State FaultKind
in_number r n b s = number_on (digit_in r b) r n b s

-- A digit takes a text on.
abbrev pub by_digit : FaultKind → Option ℕ → (ℕ → State) → Result State FaultKind
by_digit fault None f = Err fault
by_digit fault (Some d) f = Ok (f d)

-- After `0x` or `0b`.
unfoldable pub prefixed : Radix → ℕ → State → Result State FaultKind
prefixed r b s = by_digit faults.DigitNeeded (digit_in r b) (λ d. in_mode (mode.Number r d) s)

-- After a 0 with which a number begins.
unfoldable pub after_zero : ℕ → State → Result State FaultKind
after_zero b s =
    if b == 120 || b == 88 then Ok (in_mode (mode.Prefixed radix.Hexadecimal) s)
    else if b == 98 || b == 66 then Ok (in_mode (mode.Prefixed radix.Binary) s)
    else in_number radix.Decimal 0 b s

-- A hexadecimal string may stand only within the braces.
abbrev pub string_opened : Place → State → Result State FaultKind
string_opened place.Data s = Ok (in_mode mode.HexString s)
string_opened p s = refused s

-- After a `$`.
unfoldable pub dollar : ℕ → State → Result State FaultKind
dollar b s =
    if b == 34 then string_opened s.place s
    else by_digit faults.HexadecimalNeeded (hex_value b) (λ d. in_mode (mode.Number radix.Hexadecimal d) s)

-- In a hexadecimal string, between bytes.
unfoldable pub hex_string : ℕ → State → Result State FaultKind
hex_string b s =
    if b == 34 then datum s
    else if is_blank b then Ok s
    else by_digit faults.NotADigit (hex_value b) (λ d. in_mode (mode.HexHalf d) s)

-- In a hexadecimal string, after the high digit of a byte.
unfoldable pub hex_half : ℕ → ℕ → State → Result State FaultKind
hex_half high b s =
    if b == 34 then Err faults.OddDigits
    else if is_blank b then Ok s
    else by_digit faults.NotADigit (hex_value b) (λ d. gather (byte_of high d) mode.HexString s)

-- A string or a type ends.
abbrev pub closed : Quote → State → Result State FaultKind
closed quotes.Double s = string s
closed quotes.Single s = type_token s

-- Between quotes.
unfoldable pub quoted : Quote → ℕ → State → Result State FaultKind
quoted q b s =
    if b == quote_byte q then closed q s
    else if b == 92 then Ok (in_mode (mode.Escape q) s)
    else if ends_line b then Err faults.OpenString
    else Ok (gather b (mode.Quoted q) s)

-- The byte that an escape of one character stands for.
abbrev pub escaped_byte : ℕ → Option ℕ
escaped_byte b =
    if b == 110 then Some 13
    else if b == 114 then Some 10
    else if b == 116 then Some 9
    else if b == 98 then Some 8
    else if b == 102 then Some 12
    else if b == 118 then Some 11
    else if b == 63 then Some 127
    else if b == 34 || b == 39 || b == 92 then Some b
    else None

-- A byte by its number, of which so many digits were to come, and one came.
abbrev pub escape_grown : Quote → Radix → ℕ → ℕ → State → Result State FaultKind
escape_grown q r left n s =
    if nat_lt 255 n then Err faults.EscapeOutOfRange
    else if nat_le left 1 then Ok (gather n (mode.Quoted q) s)
    else Ok (in_mode (mode.EscapeNumber q r (left - 1) n) s)

abbrev pub escape_on : Option ℕ → Quote → Radix → ℕ → ℕ → State → Result State FaultKind
escape_on None q r left n s = Err faults.NotAnEscape
escape_on (Some d) q r left n s = escape_grown q r left (base r * n + d) s

-- There, in an escape by a number.
unfoldable pub escape_number : Quote → Radix → ℕ → ℕ → ℕ → State → Result State FaultKind
escape_number q r left n b s = escape_on (digit_in r b) q r left n s

-- An escape of one character, or three octal digits.
abbrev pub escape_by : Option ℕ → Quote → ℕ → State → Result State FaultKind
escape_by (Some c) q b s = Ok (gather c (mode.Quoted q) s)
escape_by None q b s = escape_number q radix.Octal 3 0 b s

-- There, after a `\`.
unfoldable pub escape : Quote → ℕ → State → Result State FaultKind
escape q b s =
    if b == 48 then Ok (in_mode (mode.EscapeZero q) s)
    else if b == 36 then Ok (in_mode (mode.EscapeNumber q radix.Hexadecimal 2 0) s)
    else escape_by (escaped_byte b) q b s

-- There, after `\0`.
unfoldable pub escape_zero : Quote → ℕ → State → Result State FaultKind
escape_zero q b s =
    if b == 120 || b == 88 then Ok (in_mode (mode.EscapeNumber q radix.Hexadecimal 2 0) s)
    else if b == 98 then Ok (in_mode (mode.EscapeNumber q radix.Binary 8 0) s)
    else if b == 100 then Ok (in_mode (mode.EscapeNumber q radix.Decimal 3 0) s)
    else escape_number q radix.Octal 2 0 b s

-- One more byte.
abbrev pub step_in : Mode → ℕ → State → Result State FaultKind
step_in mode.Between b s = between b s
step_in mode.Slash b s = slash b s
step_in mode.Comment b s = in_comment b s
step_in mode.Star b s = star b s
step_in mode.LineComment b s = line_comment b s
step_in (mode.Declaring at) b s = declaring at b s
step_in (mode.Body at) b s = body at b s
step_in mode.Word b s = in_word b s
step_in mode.Zero b s = after_zero b s
step_in (mode.Prefixed r) b s = prefixed r b s
step_in (mode.Number r n) b s = in_number r n b s
step_in mode.Dollar b s = dollar b s
step_in mode.HexString b s = hex_string b s
step_in (mode.HexHalf high) b s = hex_half high b s
step_in (mode.Quoted q) b s = quoted q b s
step_in (mode.Escape q) b s = escape q b s
step_in (mode.EscapeZero q) b s = escape_zero q b s
step_in (mode.EscapeNumber q r left n) b s = escape_number q r left n b s

unfoldable pub step : ℕ → State → Result State FaultKind
step b s = step_in s.mode b s
