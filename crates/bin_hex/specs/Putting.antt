use Rattle.std.specs.Prelude.{◌≡◌, ℕ, ◌-◌, nat_lt, bytes_eq, if◌then◌else◌, ⊤}
use Rattle.std.specs.Prelude.{List, [], ◌∷◌, ◌++◌, map, length, take, Option, Some, None, Result, Ok, Err}
use Rattle.bin_hex.specs.Alphabet.{character}
use Rattle.bin_hex.specs.BinHex.{decoded, groups}
use Rattle.bin_hex.specs.File.{File}
use Rattle.bin_hex.specs.Text.{after_mark, after_colon, in_lines}
use Rattle.bin_hex.specs.declared.fault.Damage.{Damage}
use Rattle.bin_hex.specs.declared.fault.PutFault.{PutFault}
use Rattle.bin_hex.specs.declared.fault.PutFault.TheVariants as fault

-- A BinHex file with another resource fork. All else stays as it is: the text before the encoded part, and the text after
-- it. RFC 1741, appendix A.

-- These bytes; none where there are none.
abbrev pub or_none : Option (List ℕ) → List ℕ
or_none None = []
or_none (Some bytes) = bytes

-- The bytes from the encoded text on: those after the first colon after the mark.
abbrev pub encoded_text : List ℕ → List ℕ
encoded_text bytes = or_none (after_colon (or_none (after_mark bytes)))

-- The opening: the bytes before the encoded text, the colon among them.
abbrev pub opening : List ℕ → List ℕ
opening bytes = take (length bytes - length (encoded_text bytes)) bytes

-- The closing: the bytes after the colon that ends the encoded text.
abbrev pub closing : List ℕ → List ℕ
closing bytes = or_none (after_colon (encoded_text bytes))

-- The encoded text of groups of six bits, with the colon that ends it, in lines of 64 characters: the first character
-- stands in a line after one colon.
abbrev pub encoded_lines : List ℕ → List ℕ
encoded_lines groups = in_lines 1 (map character groups ++ 58 ∷ [])

-- The bytes with another file in the encoded text.
abbrev pub with_file : List ℕ → File → List ℕ
with_file bytes file = opening bytes ++ encoded_lines (groups file) ++ closing bytes

-- A file of the Macintosh with another resource fork.
abbrev pub with_fork : List ℕ → File → File
with_fork fork file = record file { resource_fork = fork }

-- The bytes of a BinHex file, which stand for a file of the Macintosh, with a resource fork in the place of its own: the
-- same bytes, where the two are the same. It is refused where it has 2^32 bytes or more.
abbrev pub placed : List ℕ → List ℕ → File → Result (List ℕ) PutFault
placed bytes fork file =
    if bytes_eq file.resource_fork fork then Ok bytes
    else if nat_lt 0xFFFFFFFF (length fork) then Err fault.TooLong
    else Ok (with_file bytes (with_fork fork file))

-- The same of the file for which they stand, or how they are damaged.
abbrev pub put_or_damage : List ℕ → List ℕ → Result File Damage → Result (List ℕ) PutFault
put_or_damage bytes fork (Ok file) = placed bytes fork file
put_or_damage bytes fork (Err damage) = Err (fault.Damaged damage)

-- A BinHex file with a resource fork in the place of its own, or why there is no such file.
unfoldable pub with_resource_fork : List ℕ → List ℕ → Result (List ℕ) PutFault
with_resource_fork bytes fork = put_or_damage bytes fork (decoded bytes)

-- The fault is what stands in place of a file; nothing is said if the host is out of memory.
abbrev pub Prevents : PutFault → Result (List ℕ) PutFault → Type 0
Prevents fault.HostMemory made = ⊤
Prevents why made = made ≡ Err why
