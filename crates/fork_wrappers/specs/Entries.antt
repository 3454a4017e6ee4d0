use Rattle.std.specs.Prelude.{ℕ, ◌+◌, ◌*◌, Bool, ◌&&◌, ◌||◌, not, ◌==◌, nat_le, nat_lt, List, [], ◌∷◌, length, filter}
use Rattle.std.specs.Prelude.{Option, Some, None, Result, Ok, Err, if◌then◌else◌}
use Rattle.std.specs.List.{list_all}
use Rattle.fork_format.specs.Fork.{number, part, offsets}
use Rattle.fork_wrappers.specs.declared.fault.EntriesFault.{EntriesFault}
use Rattle.fork_wrappers.specs.declared.fault.EntriesFault.TheVariants as fault

-- AppleSingle and AppleDouble files: a header of 26 bytes, a list of entries of 12 bytes each, and what the entries
-- name. The header is a magic number (4 bytes), a version (4), a filler (16) and the number of entries (2); an entry is
-- its ID, the offset of what it names, and the length of that (4 bytes each).
-- AppleSingle/AppleDouble Formats for Foreign Files, Developer's Note (1990); RFC 1740, appendices A and B.

-- The bytes begin with the magic number of an AppleSingle file.
abbrev pub is_apple_single : List ℕ → Bool
is_apple_single bytes = nat_le 4 (length bytes) && number 4 0 bytes == 0x00051600

-- The bytes begin with the magic number of the header file of AppleDouble.
abbrev pub is_apple_double : List ℕ → Bool
is_apple_double bytes = nat_le 4 (length bytes) && number 4 0 bytes == 0x00051607

-- The version is 1 or 2.
abbrev pub is_version_known : List ℕ → Bool
is_version_known bytes = number 4 4 bytes == 0x00010000 || number 4 4 bytes == 0x00020000

-- The number of entries.
abbrev pub entry_count : List ℕ → ℕ
entry_count bytes = number 2 24 bytes

-- Where the list of entries ends.
abbrev pub entries_end : List ℕ → ℕ
entries_end bytes = 26 + 12 * entry_count bytes

-- Where the entries stand.
abbrev pub entry_places : List ℕ → List ℕ
entry_places bytes = offsets 26 12 (entry_count bytes)

-- What the entry at an offset names lies in the file.
abbrev pub entry_fits : List ℕ → ℕ → Bool
entry_fits bytes at = nat_le (number 4 (at + 4) bytes + number 4 (at + 8) bytes) (length bytes)

-- What the entry at an offset names.
abbrev pub entry_part : List ℕ → ℕ → List ℕ
entry_part bytes at = part (number 4 (at + 8) bytes) (number 4 (at + 4) bytes) bytes

-- The entry at an offset is one of the resource fork, whose ID is 2.
abbrev pub is_fork_entry : List ℕ → ℕ → Bool
is_fork_entry bytes at = number 4 at bytes == 2

-- The only one of entries, or none; several are a fault, since an ID stands in one entry at most.
abbrev pub only_entry : List ℕ → Result (Option ℕ) EntriesFault
only_entry [] = Ok None
only_entry (at ∷ []) = Ok (Some at)
only_entry (at ∷ next ∷ more) = Err fault.SeveralForks

-- The entry of the resource fork, if there is one.
abbrev pub fork_entry : List ℕ → Result (Option ℕ) EntriesFault
fork_entry bytes = only_entry (filter (is_fork_entry bytes) (entry_places bytes))

-- What the entry of the resource fork names; with no such entry the fork is empty.
abbrev pub fork_named : List ℕ → Result (Option ℕ) EntriesFault → Result (List ℕ) EntriesFault
fork_named bytes (Ok None) = Ok []
fork_named bytes (Ok (Some at)) = Ok (entry_part bytes at)
fork_named bytes (Err why) = Err why

-- The resource fork in an AppleSingle file, or in the header file of AppleDouble; the first fault, where it is damaged.
abbrev pub fork_in_entries : List ℕ → Result (List ℕ) EntriesFault
fork_in_entries bytes =
    if nat_lt (length bytes) 26 then Err fault.HeaderCutOff
    else if not (is_version_known bytes) then Err fault.UnknownVersion
    else if nat_lt (length bytes) (entries_end bytes) then Err fault.EntriesCutOff
    else if not (list_all (entry_fits bytes) (entry_places bytes)) then Err fault.EntryOutside
    else fork_named bytes (fork_entry bytes)
