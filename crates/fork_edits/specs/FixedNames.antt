use Rattle.std.specs.Prelude.{ℕ, ℤ, Bool, true, false, not, List, [], ◌∷◌, ◌++◌, if◌then◌else◌, codes}
use Rattle.std.specs.Fmt.{signed_decimal}
use Rattle.byteorder.specs.Endian.{big_bytes}
use Rattle.fork_edits.specs.Types.{is_between}
use Rattle.fork_edits.specs.FileNames.{safe_byte}

-- The names of files to which resources are written, by type and ID alone: STR_20-128.bin for 'STR ' 128, +vers-1.bin for 'vers' 1.

abbrev pub is_capital : ℕ → Bool
is_capital b = is_between 65 90 b

abbrev pub is_small : ℕ → Bool
is_small b = is_between 97 122 b

-- A letter, after a plus where its case is not that of the letter before it.
abbrev pub letter : Bool → ℕ → List ℕ
letter turns b = if turns then 43 ∷ b ∷ [] else b ∷ []

-- A byte that follows a letter in small or in capitals: letters as above, a digit as it is, and any other byte as _ and two hexadecimal
-- digits.
abbrev pub fixed_byte : Bool → ℕ → List ℕ
fixed_byte small b =
    if is_capital b then letter small b
    else if is_small b then letter (not small) b
    else safe_byte b

-- Whether the last letter is small, with one byte more.
abbrev pub case_after : Bool → ℕ → Bool
case_after small b = if is_capital b then false else if is_small b then true else small

-- Bytes that follow a letter in small or in capitals, each so that it may stand in the name of a file.
abbrev pub fixed_bytes : Bool → List ℕ → List ℕ
fixed_bytes small [] = []
fixed_bytes small (b ∷ bytes) = fixed_byte small b ++ fixed_bytes (case_after small b) bytes

-- The name of the file of a resource. Its type is written as if it followed a capital.
abbrev pub fixed_name : ℕ → ℤ → List ℕ
fixed_name kind id = fixed_bytes false (big_bytes 4 kind) ++ codes "-" ++ signed_decimal id ++ codes ".bin"
