use Rattle.std.specs.Prelude.{ℕ, Option, Some, None, Result, Ok, Err, List, [], ◌∷◌, map, if◌then◌else◌, chars, encode_utf8_all}
use Rattle.std.specs.Str.{is_utf8}
use Rattle.mac_roman.specs.Table.{char_of, byte_of}

-- Text in Mac OS Roman and in UTF-8.

-- The byte of a character before those of others, or the first character that has no byte.
abbrev pub before : ℕ → Option ℕ → Result (List ℕ) ℕ → Result (List ℕ) ℕ
before c None rest = Err c
before c (Some b) (Ok bytes) = Ok (b ∷ bytes)
before c (Some b) (Err d) = Err d

-- The bytes of characters, or the first character that has no byte.
abbrev pub bytes_of : List ℕ → Result (List ℕ) ℕ
bytes_of [] = Ok []
bytes_of (c ∷ cs) = before c (byte_of c) (bytes_of cs)

-- A text in Mac OS Roman, or its first character that Mac OS Roman has not. Bytes that are not UTF-8 are taken as they are, all of them.
abbrev pub to_roman : List ℕ → Result (List ℕ) ℕ
to_roman text = if is_utf8 text then bytes_of (chars text) else Ok text

-- A text of Mac OS Roman in UTF-8.
abbrev pub from_roman : List ℕ → List ℕ
from_roman bytes = encode_utf8_all (map char_of bytes)
