use Rattle.std.specs.Prelude.{ℕ, Bool, ◌&&◌, ◌||◌, nat_le, List, encode_utf8}
use Rattle.mac_roman.specs.declared.charset.Charset.{Charset}
use Rattle.mac_roman.specs.declared.charset.Charset.TheVariants.{Ascii, Utf8}
use Rattle.mac_roman.specs.Table.{char_of}

-- Bytes of Mac OS Roman as they are printed.

-- The byte is a printable character of ASCII; so is a blank.
abbrev pub is_printable : ℕ → Bool
is_printable b = nat_le 32 b && nat_le b 126

-- The byte is printed as the character that it stands for: a printable one of ASCII, and, in UTF-8, each byte from 0x80. The
-- control characters, which are below 0x20, and 0x7F are not.
abbrev pub prints : Charset → ℕ → Bool
prints Ascii b = is_printable b
prints Utf8 b = is_printable b || nat_le 128 b

-- The character that a byte stands for, in UTF-8.
abbrev pub character : ℕ → List ℕ
character b = encode_utf8 (char_of b)
