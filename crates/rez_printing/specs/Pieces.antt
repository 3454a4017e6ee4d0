use Rattle.std.specs.Prelude.{ℕ, zero, suc, ◌+◌, ◌-◌, ◌/◌, ◌%◌, ◌^◌, ◌==◌, nat_le, nat_lt, Bool, true, false, ◌&&◌, ◌||◌}
use Rattle.std.specs.Prelude.{Option, Some, None, List, [], ◌∷◌, ◌++◌, length, take, drop, codes, decimal, bytes_eq, if◌then◌else◌}
use Rattle.std.specs.List.{flat_map}
use Rattle.std.specs.Fmt.{digits}
use Rattle.byteorder.specs.Endian.{big_bytes}
use Rattle.mac_words.specs.Digits.{upper_digit}
use Rattle.rez_types.specs.declared.declaration.Form.{Form}
use Rattle.rez_types.specs.declared.declaration.Form.TheVariants as form
use Rattle.rez_types.specs.Fields.{NamedNumber, NamedText}
use Rattle.rez_printing.specs.declared.layout.Layout.{Layout}
use Rattle.rez_printing.specs.declared.style.Letters.{Letters}
use Rattle.rez_printing.specs.declared.style.Letters.TheVariants as letter
use Rattle.rez_printing.specs.declared.style.Pictures.{Pictures}
use Rattle.rez_printing.specs.declared.style.Pictures.TheVariants as picture
use Rattle.rez_printing.specs.declared.style.Style.{Style}
use Rattle.rez_printing.specs.Layouts.{row_break}

-- Numbers and strings in the language of Rez: Macintosh Programmer's Workshop: Building and Managing Programs in MPW, chapter Rez.

-- A byte in hexadecimal, in upper case.
abbrev pub byte_hex : ℕ → List ℕ
byte_hex b = upper_digit (b / 16) ∷ upper_digit (b % 16) ∷ []

-- A byte that is printable ASCII.
abbrev pub is_printable : ℕ → Bool
is_printable b = nat_le 32 b && nat_le b 126

-- A byte that stands for a letter as it is, beside those.
abbrev pub is_letter : Letters → ℕ → Bool
is_letter letter.Ascii b = false
is_letter letter.Roman b = nat_le 128 b

-- A byte between quotes: a quote of that kind and `\` after a `\`, CR as `\n`, a tab as `\t`, and another byte that is neither
-- printable ASCII nor a letter as `\0x` and two hexadecimal digits.
abbrev pub escaped : Letters → ℕ → ℕ → List ℕ
escaped letters quote b =
    if b == quote then 92 ∷ b ∷ []
    else if b == 92 then 92 ∷ 92 ∷ []
    else if b == 13 then 92 ∷ 110 ∷ []
    else if b == 9 then 92 ∷ 116 ∷ []
    else if is_printable b || is_letter letters b then b ∷ []
    else 92 ∷ 48 ∷ 120 ∷ byte_hex b

-- Bytes between quotes, in ASCII.
unfoldable pub in_quotes : ℕ → List ℕ → List ℕ
in_quotes quote bytes = quote ∷ [] ++ flat_map (escaped letter.Ascii quote) bytes ++ quote ∷ []

-- After each CR but the last byte, a string goes on as another one on the next line.
abbrev pub line_break : ℕ → List ℕ → List ℕ
line_break b rest = if b == 13 && nat_lt 0 (length rest) then codes "\"\n\t\t\"" else []

abbrev pub in_lines : Letters → List ℕ → List ℕ
in_lines letters [] = []
in_lines letters (b ∷ bytes) = escaped letters 34 b ++ line_break b bytes ++ in_lines letters bytes

-- A string.
unfoldable pub string_text : Letters → List ℕ → List ℕ
string_text letters bytes = 34 ∷ [] ++ in_lines letters bytes ++ 34 ∷ []

-- What stands before the n-th byte of a hexadecimal string, from 0 on: it goes on as another one on the next line before each
-- 16th byte, and a blank stands before each other second one.
abbrev pub hex_break : ℕ → List ℕ
hex_break n =
    if n == 0 then [] else if n % 16 == 0 then codes "\"\n\t\t$\"" else if n % 2 == 0 then 32 ∷ [] else []

-- Bytes of a hexadecimal string, from its n-th on.
abbrev pub hex_from : ℕ → List ℕ → List ℕ
hex_from n [] = []
hex_from n (b ∷ bytes) = hex_break n ++ byte_hex b ++ hex_from (n + 1) bytes

-- A hexadecimal string.
unfoldable pub hex_text : List ℕ → List ℕ
hex_text bytes = codes "$\"" ++ hex_from 0 bytes ++ 34 ∷ []

-- A bit of a picture: `#` for a point that is set, `.` for another.
abbrev pub point : ℕ → ℕ
point n = if n % 2 == 0 then 46 else 35

-- The points of a byte, from its highest bit on.
unfoldable pub points : ℕ → List ℕ
points b =
    point (b / 128) ∷ point (b / 64) ∷ point (b / 32) ∷ point (b / 16) ∷ point (b / 8) ∷ point (b / 4) ∷ point (b / 2) ∷ point b ∷ []

-- A row of a picture: a hexadecimal string, and beside it the points as a comment.
unfoldable pub row_text : List ℕ → List ℕ
row_text bytes = hex_text bytes ++ codes " /* " ++ flat_map points bytes ++ codes " */"

-- n more rows of so many bytes each.
abbrev pub more_rows : List ℕ → ℕ → ℕ → List ℕ → List ℕ
more_rows before row zero bytes = []
more_rows before row (suc n) bytes = before ++ row_text (take row bytes) ++ more_rows before row n (drop row bytes)

-- A picture by its rows of so many bytes, each on a line of its own.
unfoldable pub picture_text : List ℕ → ℕ → List ℕ → List ℕ
picture_text before row bytes =
    row_text (take row bytes) ++ more_rows before row (length bytes / row - 1) (drop row bytes)

-- The bytes of a row, by those of a picture: 8 by 8, 16 by 12, 16 by 16 or 32 by 32 points.
abbrev pub row_bytes : ℕ → Option ℕ
row_bytes n = if n == 8 then Some 1 else if n == 24 || n == 32 then Some 2 else if n == 128 then Some 4 else None

abbrev pub hex_rows : List ℕ → Option ℕ → List ℕ → List ℕ
hex_rows before None bytes = hex_text bytes
hex_rows before (Some row) bytes = picture_text before row bytes

-- A hexadecimal string, which may be a picture.
abbrev pub hex_value : Pictures → Layout → List ℕ → List ℕ
hex_value picture.None l bytes = hex_text bytes
hex_value picture.OneBit l bytes = hex_rows (row_break l) (row_bytes (length bytes)) bytes

-- The bytes of a fill or an alignment as a comment.
unfoldable pub fill_comment : List ℕ → List ℕ
fill_comment bytes = codes "/* fill $" ++ flat_map byte_hex bytes ++ codes " */"

-- How many elements an array of such a name has.
abbrev pub after_blank : List ℕ → List ℕ
after_blank [] = []
after_blank name = 32 ∷ name

unfoldable pub array_comment : List ℕ → ℕ → List ℕ
array_comment name count = codes "/* array" ++ after_blank name ++ codes ": " ++ decimal count ++ codes " elements */"

-- The number of an element that so many others precede.
unfoldable pub element_comment : ℕ → List ℕ
element_comment count = codes "/* [" ++ decimal (count + 1) ++ codes "] */"

-- A number in hexadecimal, and in binary.
unfoldable pub hex_number : ℕ → List ℕ
hex_number n = codes "0x" ++ digits 16 true n

unfoldable pub binary_number : ℕ → List ℕ
binary_number n = codes "0b" ++ digits 2 false n

-- The number of so many bits, the highest of which is its sign.
abbrev pub signed_number : ℕ → ℕ → List ℕ
signed_number width n = if nat_lt n (2 ^ (width - 1)) then decimal n else 45 ∷ decimal (2 ^ width - n)

-- Whole bytes as characters, another number as it is.
abbrev pub literal_number : ℕ → ℕ → List ℕ
literal_number width n = if width % 8 == 0 then in_quotes 39 (big_bytes (width / 8) n) else decimal n

abbrev pub truth : ℕ → List ℕ
truth n = if n == 0 then codes "false" else codes "true"

-- A number of so many bits in a form.
abbrev pub number_text : Form → ℕ → ℕ → List ℕ
number_text form.Signed width n = signed_number width n
number_text form.Unsigned width n = decimal n
number_text form.Hex width n = hex_number n
number_text form.Binary width n = binary_number n
number_text form.Literal width n = literal_number width n
number_text form.Boolean width n = truth n

-- An integer: the first of its names for this number, or the number.
abbrev pub integer_text : Form → ℕ → List NamedNumber → ℕ → List ℕ
integer_text f width [] n = number_text f width n
integer_text f width (c ∷ constants) n = if c.pattern == n then c.name else integer_text f width constants n

-- A string in its form, in a style and among values that stand so.
abbrev pub bytes_text : Style → Layout → Bool → List ℕ → List ℕ
bytes_text style l true bytes = hex_value style.pictures l bytes
bytes_text style l false bytes = string_text style.letters bytes

-- A string: the first of its names for this one, or the string.
abbrev pub named_text : Style → Layout → Bool → List NamedText → List ℕ → List ℕ
named_text style l is_hex [] bytes = bytes_text style l is_hex bytes
named_text style l is_hex (c ∷ constants) bytes =
    if bytes_eq c.text bytes then c.name else named_text style l is_hex constants bytes
