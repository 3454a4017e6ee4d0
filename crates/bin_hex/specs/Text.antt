use Rattle.std.specs.Prelude.{ℕ, ◌+◌, ◌==◌, ◌&&◌, Bool, true, false, Option, Some, None, Result, Ok, Err, is_some}
use Rattle.std.specs.Prelude.{List, [], ◌∷◌, ◌++◌, map, drop, codes, if◌then◌else◌}
use Rattle.bin_hex.specs.Alphabet.{character, role_of}
use Rattle.bin_hex.specs.declared.alphabet.Role.{Role}
use Rattle.bin_hex.specs.declared.alphabet.Role.TheVariants as role
use Rattle.bin_hex.specs.declared.fault.Damage.{Damage}
use Rattle.bin_hex.specs.declared.fault.Damage.TheVariants as damage

-- The text of a BinHex file: any text, the line that says what follows, and the encoded text between two colons. RFC 1741,
-- appendix A.

-- How the line begins by which a reader knows such a text. It goes on with ' with BinHex 4.0)', but not in each program's
-- texts.
abbrev pub mark : List ℕ
mark = codes "(This file must be converted"

-- Bytes begin with a text.
abbrev pub begins : List ℕ → List ℕ → Bool
begins [] bytes = true
begins (wanted ∷ text) [] = false
begins (wanted ∷ text) (byte ∷ bytes) = wanted == byte && begins text bytes

-- The bytes after the first place where the mark stands, if it stands anywhere.
abbrev pub after_mark : List ℕ → Option (List ℕ)
after_mark [] = None
after_mark (byte ∷ bytes) = if begins mark (byte ∷ bytes) then Some (drop 28 (byte ∷ bytes)) else after_mark bytes

-- The bytes are those of a BinHex file: the mark stands among them.
abbrev pub is_bin_hex : List ℕ → Bool
is_bin_hex bytes = is_some (after_mark bytes)

-- The bytes after the first colon, if there is one.
abbrev pub after_colon : List ℕ → Option (List ℕ)
after_colon [] = None
after_colon (byte ∷ bytes) = if byte == 58 then Some bytes else after_colon bytes

-- Six bits, and those that are read after them.
abbrev pub with_first : ℕ → Result (List ℕ) Damage → Result (List ℕ) Damage
with_first sextet (Ok sextets) = Ok (sextet ∷ sextets)
with_first sextet (Err damage) = Err damage

-- What is read from a byte on, by what it is, where it stands, and what is read from the next one on.
abbrev pub read_from : Role → ℕ → Result (List ℕ) Damage → Result (List ℕ) Damage
read_from role.Colon at rest = Ok []
read_from role.Blank at rest = rest
read_from (role.Sextet sextet) at rest = with_first sextet rest
read_from role.Foreign at rest = Err (damage.Foreign at)

-- The groups of six bits that an encoded text stands for, up to the colon that ends it. Its first byte stands at an offset
-- in the file.
abbrev pub sextets : ℕ → List ℕ → Result (List ℕ) Damage
sextets at [] = Err damage.NoEnd
sextets at (byte ∷ bytes) = read_from (role_of byte) at (sextets (at + 1) bytes)

-- A character as it is written where so many stand in the last line: in a new line after 64.
abbrev pub put_in_line : ℕ → ℕ → List ℕ
put_in_line column byte = if column == 64 then 10 ∷ byte ∷ [] else byte ∷ []

-- How many characters stand in the last line then.
abbrev pub column_after : ℕ → ℕ
column_after column = if column == 64 then 1 else column + 1

-- Characters in lines of 64, where so many stand in the first line already.
abbrev pub in_lines : ℕ → List ℕ → List ℕ
in_lines column [] = []
in_lines column (byte ∷ bytes) = put_in_line column byte ++ in_lines (column_after column) bytes

-- The text that is written for groups of six bits: the line, an empty line, and lines of 64 characters, the colons among
-- them. Each line ends with LF.
abbrev pub text_of : List ℕ → List ℕ
text_of groups =
    codes "(This file must be converted with BinHex 4.0)\n\n"
    ++ in_lines 0 (58 ∷ map character groups ++ (58 ∷ [])) ++ (10 ∷ [])
