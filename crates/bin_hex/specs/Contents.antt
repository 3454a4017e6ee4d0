use Rattle.std.specs.Prelude.{ℕ, ◌+◌, ◌==◌, nat_lt, List, [], ◌∷◌, ◌++◌, length, take, drop, slice_index}
use Rattle.std.specs.Prelude.{Result, Ok, Err, if◌then◌else◌}
use Rattle.checksums.specs.Checksum.{checksum}
use Rattle.byteorder.specs.Endian.{big_number, big_bytes}
use Rattle.bin_hex.specs.Faults.{◌>>=◌}
use Rattle.bin_hex.specs.File.{File, is_name_length}
use Rattle.bin_hex.specs.declared.fault.Damage.{Damage}
use Rattle.bin_hex.specs.declared.fault.Damage.TheVariants as damage
use Rattle.bin_hex.specs.declared.fault.Part.{Part}
use Rattle.bin_hex.specs.declared.fault.Part.TheVariants as part

-- The bytes that stand for a file, once six bits are eight again and runs are bytes: a header, the data fork and the
-- resource fork, each with its checksum after it. The header is the length of the name (1 byte), the name, the version
-- (1 byte, 0), the type, the creator (4 bytes each), the Finder's flags (2), and the lengths of the data fork and of the
-- resource fork (4 each). RFC 1741, appendix A.

-- So many bytes, and those after them.
abbrev pub piece : ℕ → List ℕ → Result (List ℕ × List ℕ) Damage
piece count bytes = if nat_lt (length bytes) count then Err damage.CutOff else Ok (take count bytes, drop count bytes)

-- A part after which its checksum stands in these bytes, and the bytes after the checksum.
abbrev pub checked : Part → List ℕ → List ℕ → Result (List ℕ × List ℕ) Damage
checked part bytes after = do
  sum ← piece 2 after
  if big_number 2 sum.0 == checksum bytes then Ok (bytes, sum.1) else Err (damage.WrongChecksum part)

-- The length of the name in a header.
abbrev pub name_length : List ℕ → ℕ
name_length header = slice_index header 0

-- The header after the length of the name, and the bytes after the header.
abbrev pub after_length : ℕ → List ℕ → Result (List ℕ × List ℕ) Damage
after_length count bytes = if is_name_length count then piece (count + 19) bytes else Err damage.NameLength

-- The header, and the bytes after its checksum.
unfoldable pub header_in : List ℕ → Result (List ℕ × List ℕ) Damage
header_in bytes = do
  first ← piece 1 bytes
  rest ← after_length (name_length first.0) first.1
  checked part.Header (first.0 ++ rest.0) rest.1

-- A fork of so many bytes, and the bytes after its checksum.
unfoldable pub fork_in : Part → ℕ → List ℕ → Result (List ℕ × List ℕ) Damage
fork_in part count bytes = do
  fork ← piece count bytes
  checked part fork.0 fork.1

-- A number of so many bytes in a header, so far after the name.
abbrev pub field : ℕ → ℕ → List ℕ → ℕ
field size offset header = big_number size (drop (name_length header + offset) header)

-- The lengths of the forks.
abbrev pub data_length : List ℕ → ℕ
data_length header = field 4 12 header

abbrev pub resource_length : List ℕ → ℕ
resource_length header = field 4 16 header

-- The file of a header and two forks.
abbrev pub file_of : List ℕ → List ℕ → List ℕ → File
file_of header data_fork resource_fork = record {
  name = take (name_length header) (drop 1 header);
  kind = field 4 2 header;
  creator = field 4 6 header;
  flags = field 2 10 header;
  data_fork = data_fork;
  resource_fork = resource_fork;
}

-- The file that bytes stand for. Up to two bytes may follow the last checksum, where a program fills up groups of three.
unfoldable pub file_in : List ℕ → Result File Damage
file_in bytes = do
  header ← header_in bytes
  data_fork ← fork_in part.DataFork (data_length header.0) header.1
  resource_fork ← fork_in part.ResourceFork (resource_length header.0) data_fork.1
  if nat_lt 2 (length resource_fork.1) then Err damage.TooLong else Ok (file_of header.0 data_fork.0 resource_fork.0)

-- A name with its length before it, and the version after it.
abbrev pub named : List ℕ → List ℕ
named name = length name ∷ name ++ (0 ∷ [])

-- The header after that.
abbrev pub fields : File → List ℕ
fields file =
    big_bytes 4 file.kind ++ big_bytes 4 file.creator ++ big_bytes 2 file.flags
    ++ big_bytes 4 (length file.data_fork) ++ big_bytes 4 (length file.resource_fork)

-- The header of a file.
abbrev pub header : File → List ℕ
header file = named file.name ++ fields file

-- A part with its checksum after it.
abbrev pub with_checksum : List ℕ → List ℕ
with_checksum bytes = bytes ++ big_bytes 2 (checksum bytes)

-- The bytes that stand for a file.
abbrev pub bytes_of : File → List ℕ
bytes_of file = with_checksum (header file) ++ with_checksum file.data_fork ++ with_checksum file.resource_fork
