use Rattle.std.specs.Prelude.{ℕ, ◌-◌, Bool, ◌||◌, Option, Some, None, List, [], ◌∷◌, ◌++◌, take, replicate, length}
use Rattle.std.specs.Prelude.{if◌then◌else◌, codes, decimal}
use Rattle.std.specs.List.{flat_map}
use Rattle.std.specs.Fmt.{signed_decimal}
use Rattle.byteorder.specs.Endian.{big_bytes}
use Rattle.fork_edits.specs.Types.{is_between}
use Rattle.fork_edits.specs.Texts.{hex_byte}
use Rattle.fork_edits.specs.Resources.{Row}

-- The names of files to which resources are written, one each: 0001-STR_20-128-Greeting.bin for the first resource, 'STR '
-- 128 with the name Greeting.

-- A letter or a digit.
abbrev pub is_plain_byte : ℕ → Bool
is_plain_byte b = is_between 48 57 b || is_between 65 90 b || is_between 97 122 b

-- A letter or a digit as it is, and any other byte as _ and two hexadecimal digits.
abbrev pub safe_byte : ℕ → List ℕ
safe_byte b = if is_plain_byte b then b ∷ [] else 95 ∷ hex_byte b

-- A number in decimal, with zeros before it up to four digits.
abbrev pub place_text : ℕ → List ℕ
place_text n = replicate (4 - length (decimal n)) 48 ++ decimal n

-- The first 48 bytes of a name; nothing where there is no name.
abbrev pub name_part : Option (List ℕ) → List ℕ
name_part None = []
name_part (Some name) = codes "-" ++ flat_map safe_byte (take 48 name)

-- The type, the ID and the name of a resource, in the name of its file.
abbrev pub resource_part : Row → List ℕ
resource_part x = flat_map safe_byte (big_bytes 4 x.kind) ++ codes "-" ++ signed_decimal x.resource.id
    ++ name_part x.resource.name

-- The name of the file of the n-th resource.
abbrev pub file_name : ℕ → Row → List ℕ
file_name n x = place_text n ++ codes "-" ++ resource_part x ++ codes ".bin"
