use Rattle.std.specs.Prelude.{ℕ, ◌/◌, ◌%◌, Bool, ◌&&◌, ◌||◌, ◌==◌, not, Option, Some, None, List, [], ◌∷◌, ◌++◌}
use Rattle.std.specs.Prelude.{if◌then◌else◌, codes}
use Rattle.std.specs.List.{flat_map, list_all}
use Rattle.byteorder.specs.Endian.{big_bytes}
use Rattle.mac_words.specs.Digits.{upper_digit}
use Rattle.mac_roman.specs.declared.charset.Charset.{Charset}
use Rattle.mac_roman.specs.Charset.{prints, character}

-- Types and names as a person reads them, in the characters of a set.

-- The two hexadecimal digits of a byte, in upper case.
abbrev pub hex_byte : ℕ → List ℕ
hex_byte b = upper_digit (b / 16) ∷ upper_digit (b % 16) ∷ []

-- A byte that may stand between single quotes.
abbrev pub is_clear : Charset → ℕ → Bool
is_clear charset b = prints charset b && not (b == 39)

-- The four characters of a type in single quotes, as 'STR '; a dollar sign and eight digits where one of its bytes may not
-- stand between quotes.
abbrev pub four_text : Charset → List ℕ → List ℕ
four_text charset bytes = if list_all (is_clear charset) bytes then codes "'" ++ flat_map character bytes ++ codes "'"
    else codes "$" ++ flat_map hex_byte bytes

-- A type as a person reads it.
abbrev pub type_text : Charset → ℕ → List ℕ
type_text charset kind = four_text charset (big_bytes 4 kind)

-- A byte of a name: a quote and a backslash stand after a backslash, and a byte that isn't printed as a character is \0x and
-- two digits.
abbrev pub char_text : Charset → ℕ → List ℕ
char_text charset b = if b == 34 || b == 92 then 92 ∷ b ∷ []
    else if prints charset b then character b
    else codes "\\0x" ++ hex_byte b

-- A name as a person reads it: in double quotes, and - for no name.
abbrev pub name_text : Charset → Option (List ℕ) → List ℕ
name_text charset None = codes "-"
name_text charset (Some name) = codes "\"" ++ flat_map (char_text charset) name ++ codes "\""
