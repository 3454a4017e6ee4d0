use Rattle.std.specs.Prelude.{ℕ, ◌+◌, ◌*◌, ◌-◌, ◌/◌, min, ◌==◌, nat_le, nat_lt, List, [], ◌∷◌, length, Option, Some, None}
use Rattle.std.specs.Prelude.{Result, Ok, Err, option_map, if◌then◌else◌}
use Rattle.fork_format.specs.Fork.{number, part, offsets}
use Rattle.fork_format.specs.View.{view_name}
use Rattle.fork_wrappers.specs.Entries.{entry_count, entry_fits, entry_part}
use Rattle.fork_wrappers.specs.MacBinary.{name, data_length, data_place, fork_length}
use Rattle.fork_wrappers.specs.Unwrapped.{wrapping_of, unwrapped}
use Rattle.fork_wrappers.specs.declared.fault.WrapFault.{WrapFault}
use Rattle.fork_wrappers.specs.declared.file_info.FileInfo.{FileInfo}
use Rattle.fork_wrappers.specs.declared.wrapping.Wrapping.{Wrapping}
use Rattle.fork_wrappers.specs.declared.wrapping.Wrapping.TheVariants as wrapping

-- What the wrapper of a file says of it, and its data fork.
-- MacBinary II Standard (1987), "The Binary Transfer Format"; AppleSingle/AppleDouble Formats for Foreign Files, Developer's
-- Note (1990), "Entry IDs"; RFC 1740, appendices A and B.

-- What is known of a file: its name, its type and its creator, the Finder's flags, when it was created and last changed,
-- and the lengths of its forks. Dates are seconds from the midnight that begins the year 1904.
pub record Info : Type 0 where
  pub wrapping : Wrapping
  pub name : Option (List ℕ)
  pub file_type : Option ℕ
  pub creator : Option ℕ
  pub flags : Option ℕ
  pub created : Option ℕ
  pub changed : Option ℕ
  pub data_len : Option ℕ
  pub fork_len : Option ℕ

-- What is known of a file as a value, without the place where its name lies in memory.
abbrev pub view_info : FileInfo → Info
view_info f = record {
  wrapping = f.wrapping;
  name = view_name f.name;
  file_type = f.file_type;
  creator = f.creator;
  flags = f.flags;
  created = f.created;
  changed = f.changed;
  data_len = f.data_len;
  fork_len = f.fork_len;
}

-- Nothing is known of a bare fork.
abbrev pub bare_info : Info
bare_info = record {
  wrapping = wrapping.Plain;
  name = None;
  file_type = None;
  creator = None;
  flags = None;
  created = None;
  changed = None;
  data_len = None;
  fork_len = None;
}

-- A date of MacBinary, which 0 leaves unknown.
abbrev pub header_date : ℕ → Option ℕ
header_date seconds = if seconds == 0 then None else Some seconds

-- What a MacBinary header says. The higher byte of the Finder's flags stands at 73, and the lower byte at 101, which
-- MacBinary I leaves 0.
abbrev pub header_info : Wrapping → List ℕ → Info
header_info how bytes = record {
  wrapping = how;
  name = Some (name bytes);
  file_type = Some (number 4 65 bytes);
  creator = Some (number 4 69 bytes);
  flags = Some (256 * number 1 73 bytes + number 1 101 bytes);
  created = header_date (number 4 91 bytes);
  changed = header_date (number 4 95 bytes);
  data_len = Some (data_length bytes);
  fork_len = Some (fork_length bytes);
}

-- How many entries of the list of AppleSingle and AppleDouble stand whole in the file.
abbrev pub standing_count : List ℕ → ℕ
standing_count bytes = min (entry_count bytes) ((length bytes - 26) / 12)

-- The first of entries with an ID.
abbrev pub first_with : ℕ → List ℕ → List ℕ → Option ℕ
first_with id bytes [] = None
first_with id bytes (at ∷ more) = if number 4 at bytes == id then Some at else first_with id bytes more

-- What an entry names, if that lies in the file.
abbrev pub part_inside : List ℕ → Option ℕ → Option (List ℕ)
part_inside bytes None = None
part_inside bytes (Some at) = if entry_fits bytes at then Some (entry_part bytes at) else None

-- What the first entry with an ID names.
abbrev pub named_by : ℕ → List ℕ → Option (List ℕ)
named_by id bytes = part_inside bytes (first_with id bytes (offsets 26 12 (standing_count bytes)))

-- The bytes of that; none, where nothing is named.
abbrev pub bytes_or_none : Option (List ℕ) → List ℕ
bytes_or_none None = []
bytes_or_none (Some bytes) = bytes

-- A name that a string of the Macintosh holds: one of at most 255 bytes.
abbrev pub real_name : Option (List ℕ) → Option (List ℕ)
real_name None = None
real_name (Some name) = if nat_le (length name) 255 then Some name else None

-- The number of four bytes at an offset, and that of two, if the bytes go so far.
abbrev pub word_at : ℕ → List ℕ → Option ℕ
word_at at bytes = if nat_le (at + 4) (length bytes) then Some (number 4 at bytes) else None

abbrev pub half_at : ℕ → List ℕ → Option ℕ
half_at at bytes = if nat_le (at + 2) (length bytes) then Some (number 2 at bytes) else None

-- A date of AppleSingle and AppleDouble: a signed number of seconds from the midnight that begins the year 2000, which is
-- 3,029,529,600 seconds after that of 1904. The least number, 80000000, leaves the date unknown.
abbrev pub entry_date : Option ℕ → Option ℕ
entry_date None = None
entry_date (Some seconds) =
    if seconds == 0x80000000 then None
    else if nat_lt seconds 0x80000000 then Some (3029529600 + seconds)
    else Some (3029529600 + seconds - 0x100000000)

-- What the entries of AppleSingle and AppleDouble name: the data fork (ID 1), the resource fork (2), the real name (3), the
-- dates of the file (8) and the Finder's information (9). An entry that lies outside the file says nothing, nor does one that
-- is too short for what is read in it, or too long for a name.
abbrev pub entries_info : Wrapping → List ℕ → Info
entries_info how bytes = record {
  wrapping = how;
  name = real_name (named_by 3 bytes);
  file_type = word_at 0 (bytes_or_none (named_by 9 bytes));
  creator = word_at 4 (bytes_or_none (named_by 9 bytes));
  flags = half_at 8 (bytes_or_none (named_by 9 bytes));
  created = entry_date (word_at 0 (bytes_or_none (named_by 8 bytes)));
  changed = entry_date (word_at 4 (bytes_or_none (named_by 8 bytes)));
  data_len = option_map length (named_by 1 bytes);
  fork_len = option_map length (named_by 2 bytes);
}

-- What a file that is wrapped so says.
abbrev pub info_in : Wrapping → List ℕ → Info
info_in wrapping.Plain bytes = bare_info
info_in wrapping.AppleSingle bytes = entries_info wrapping.AppleSingle bytes
info_in wrapping.AppleDouble bytes = entries_info wrapping.AppleDouble bytes
info_in wrapping.MacBinaryI bytes = header_info wrapping.MacBinaryI bytes
info_in wrapping.MacBinaryII bytes = header_info wrapping.MacBinaryII bytes
info_in wrapping.MacBinaryIII bytes = header_info wrapping.MacBinaryIII bytes

-- What a file says, as far as its wrapper stands.
abbrev pub info_of : List ℕ → Info
info_of bytes = info_in (wrapping_of bytes) bytes

-- The data fork after a MacBinary header.
abbrev pub data_behind : List ℕ → List ℕ
data_behind bytes = part (data_length bytes) (data_place bytes) bytes

-- The data fork in a file that is wrapped so and whose wrapper is whole. The header file of AppleDouble has none, and
-- neither has a bare resource fork.
abbrev pub data_in : Wrapping → List ℕ → Option (List ℕ)
data_in wrapping.Plain bytes = None
data_in wrapping.AppleSingle bytes = named_by 1 bytes
data_in wrapping.AppleDouble bytes = None
data_in wrapping.MacBinaryI bytes = Some (data_behind bytes)
data_in wrapping.MacBinaryII bytes = Some (data_behind bytes)
data_in wrapping.MacBinaryIII bytes = Some (data_behind bytes)

-- The data fork of a file whose resource fork was found, or how the wrapper is damaged.
abbrev pub data_beside : Result (List ℕ) WrapFault → List ℕ → Result (Option (List ℕ)) WrapFault
data_beside (Ok fork) bytes = Ok (data_in (wrapping_of bytes) bytes)
data_beside (Err why) bytes = Err why

-- The data fork in the bytes of a file, or how its wrapper is damaged.
abbrev pub data_fork_in : List ℕ → Result (Option (List ℕ)) WrapFault
data_fork_in bytes = data_beside (unwrapped bytes) bytes
