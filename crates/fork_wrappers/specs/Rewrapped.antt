use Rattle.std.specs.Prelude.{◌≡◌, ℕ, ◌+◌, ◌*◌, ◌-◌, Bool, true, false, ◌&&◌, ◌||◌, not, ◌==◌, nat_le, nat_lt}
use Rattle.std.specs.Prelude.{List, [], ◌++◌, length, take, drop, replicate, Option, Some, None, Result, Ok, Err}
use Rattle.std.specs.Prelude.{if◌then◌else◌, bytes_eq}
use Rattle.std.specs.List.{list_all, flat_map}
pub use Rattle.plain_laws.specs.Bytes.{AreBytes}
use Rattle.checksums.specs.Checksum.{checksum}
use Rattle.byteorder.specs.Endian.{big_bytes}
use Rattle.fork_format.specs.Fork.{number, part}
use Rattle.fork_wrappers.specs.Entries.{entry_count, entries_end, entry_places, is_fork_entry, entry_part, fork_entry}
use Rattle.fork_wrappers.specs.MacBinary.{padded, fork_length, fork_place}
use Rattle.fork_wrappers.specs.Made.{entry}
use Rattle.fork_wrappers.specs.Unwrapped.{wrapping_of, unwrapped}
use Rattle.fork_wrappers.specs.declared.fault.EntriesFault.{EntriesFault}
use Rattle.fork_wrappers.specs.declared.fault.RewrapFault.{RewrapFault}
use Rattle.fork_wrappers.specs.declared.fault.RewrapFault.TheVariants as fault
use Rattle.fork_wrappers.specs.declared.fault.WrapFault.{WrapFault}
use Rattle.fork_wrappers.specs.declared.new_entries.ForkSpan.{ForkSpan}
use Rattle.fork_wrappers.specs.declared.wrapping.Wrapping.{Wrapping}
use Rattle.fork_wrappers.specs.declared.wrapping.Wrapping.TheVariants as wrapping

-- A file with another fork in the place of its resource fork, wrapped as it was.
-- AppleSingle/AppleDouble Formats for Foreign Files, Developer's Note (1990); MacBinary II Standard (1987), "The Binary
-- Transfer Format".

-- Where the resource fork stands in a file of AppleSingle or AppleDouble: where its entry says. With no entry of its own
-- it has no bytes, at the end of the file, and the list gets one entry more.
abbrev pub span_of : List ℕ → Result (Option ℕ) EntriesFault → ForkSpan
span_of file (Ok (Some at)) = record { at = number 4 (at + 4) file; len = number 4 (at + 8) file; more = 0 }
span_of file (Ok None) = record { at = length file; len = 0; more = 1 }
span_of file (Err several) = record { at = length file; len = 0; more = 1 }

abbrev pub fork_span : List ℕ → ForkSpan
fork_span file = span_of file (fork_entry file)

-- The offset and the length of what the entry at an offset names.
abbrev pub named_place : List ℕ → ℕ → ℕ
named_place file at = number 4 (at + 4) file

abbrev pub named_length : List ℕ → ℕ → ℕ
named_length file at = number 4 (at + 8) file

-- What the entry at an offset names has no byte in the header or in the list of entries.
abbrev pub is_after_list : List ℕ → ℕ → Bool
is_after_list file at = named_length file at == 0 || nat_le (entries_end file) (named_place file at)

-- What the entry at an offset names ends before the fork, or begins after it.
abbrev pub is_beside : List ℕ → ForkSpan → ℕ → Bool
is_beside file span at = nat_le (named_place file at + named_length file at) span.at
    || nat_le (span.at + span.len) (named_place file at)

-- The entry at an offset is the one of the fork, or what it names lies outside the header, the list and the fork.
abbrev pub is_clear : List ℕ → ForkSpan → ℕ → Bool
is_clear file span at = is_fork_entry file at || (is_after_list file at && is_beside file span at)

-- The fork lies after the list of entries, and each other entry is clear of it.
abbrev pub are_clear : List ℕ → ForkSpan → Bool
are_clear file span = nat_le (entries_end file) span.at && list_all (is_clear file span) (entry_places file)

-- Where something that an entry names stands once a fork of a length is in the place of the other: what begins after
-- the fork moves by the difference of the two, and all move by what the list grows.
abbrev pub moved : ForkSpan → ℕ → ℕ → ℕ → ℕ
moved span new place size =
    12 * span.more + (if nat_le (place + size) span.at then place else place + new - span.len)

-- The entry of the fork once it has a length.
abbrev pub new_fork_entry : ForkSpan → ℕ → List ℕ
new_fork_entry span new = entry 2 (12 * span.more + span.at) new

-- What becomes of the entry at an offset.
abbrev pub new_entry : List ℕ → ForkSpan → ℕ → ℕ → List ℕ
new_entry file span new at =
    if is_fork_entry file at then new_fork_entry span new
    else part 4 at file ++ big_bytes 4 (moved span new (named_place file at) (named_length file at)) ++ part 4 (at + 8) file

-- The entry that the list gets where it had none of the fork.
abbrev pub added_entry : ForkSpan → ℕ → List ℕ
added_entry span new = if span.more == 0 then [] else new_fork_entry span new

-- The file's header and its list of entries.
abbrev pub new_list : List ℕ → ForkSpan → ℕ → List ℕ
new_list file span new =
    take 24 file ++ big_bytes 2 (entry_count file + span.more) ++ flat_map (new_entry file span new) (entry_places file)
    ++ added_entry span new

-- The file: after the list all bytes stay as they were, but for those of the fork.
abbrev pub with_fork : List ℕ → ForkSpan → List ℕ → List ℕ
with_fork file span fork =
    new_list file span (length fork) ++ part (span.at - entries_end file) (entries_end file) file ++ fork
    ++ drop (span.at + span.len) file

-- The number of entries fits two bytes, and each offset four.
abbrev pub is_entries_file : List ℕ → ForkSpan → ℕ → Bool
is_entries_file file span new = nat_lt (entry_count file + span.more) 0x10000
    && nat_lt (length file - span.len + 12 * span.more + new) 0x100000000

-- A file of AppleSingle or AppleDouble with another fork.
abbrev pub among_entries : List ℕ → ForkSpan → List ℕ → Result (List ℕ) RewrapFault
among_entries file span fork =
    if not (are_clear file span) then Err fault.Overlap
    else if not (is_entries_file file span (length fork)) then Err fault.TooLong
    else Ok (with_fork file span fork)

-- The greatest length of a resource fork of MacBinary.
abbrev pub greatest_fork : Wrapping → ℕ
greatest_fork wrapping.MacBinaryI = 0x7FFFFF
greatest_fork _ = 0xFFFFFFFF

-- The first 124 bytes of a MacBinary header, with another length of the resource fork, at 87.
abbrev pub new_fields : List ℕ → ℕ → List ℕ
new_fields file new = take 87 file ++ big_bytes 4 new ++ part 33 91 file

-- The checksum of those, which MacBinary I lacks.
abbrev pub new_checksum : Wrapping → List ℕ → List ℕ → List ℕ
new_checksum wrapping.MacBinaryI file fields = part 2 124 file
new_checksum _ file fields = big_bytes 2 (checksum fields)

-- The file up to its resource fork: the secondary header and the data fork stay, and the data fork is padded.
abbrev pub new_front : Wrapping → List ℕ → ℕ → List ℕ
new_front how file new =
    new_fields file new ++ new_checksum how file (new_fields file new) ++ part (fork_place file - 126) 126 file
    ++ replicate (fork_place file - length file) 0

-- The file: the fork is padded, and what follows the old one with its padding stays.
abbrev pub with_padded : Wrapping → List ℕ → List ℕ → List ℕ
with_padded how file fork =
    new_front how file (length fork) ++ fork ++ replicate (padded (length fork) - length fork) 0
    ++ drop (fork_place file + padded (fork_length file)) file

-- A file of MacBinary with another fork.
abbrev pub behind_header : Wrapping → List ℕ → List ℕ → Result (List ℕ) RewrapFault
behind_header how file fork =
    if nat_lt (greatest_fork how) (length fork) then Err fault.TooLong
    else Ok (with_padded how file fork)

-- A file that is wrapped so, with another fork.
abbrev pub remade : Wrapping → List ℕ → List ℕ → Result (List ℕ) RewrapFault
remade wrapping.Plain file fork = Ok fork
remade wrapping.AppleSingle file fork = among_entries file (fork_span file) fork
remade wrapping.AppleDouble file fork = among_entries file (fork_span file) fork
remade wrapping.MacBinaryI file fork = behind_header wrapping.MacBinaryI file fork
remade wrapping.MacBinaryII file fork = behind_header wrapping.MacBinaryII file fork
remade wrapping.MacBinaryIII file fork = behind_header wrapping.MacBinaryIII file fork

-- The wrappings are the same.
abbrev pub same_wrapping : Wrapping → Wrapping → Bool
same_wrapping wrapping.Plain wrapping.Plain = true
same_wrapping wrapping.AppleSingle wrapping.AppleSingle = true
same_wrapping wrapping.AppleDouble wrapping.AppleDouble = true
same_wrapping wrapping.MacBinaryI wrapping.MacBinaryI = true
same_wrapping wrapping.MacBinaryII wrapping.MacBinaryII = true
same_wrapping wrapping.MacBinaryIII wrapping.MacBinaryIII = true
same_wrapping _ _ = false

-- A file that was made, if it is taken for one that is wrapped so.
abbrev pub recognized : Wrapping → Result (List ℕ) RewrapFault → Result (List ℕ) RewrapFault
recognized how (Ok new) = if same_wrapping (wrapping_of new) how then Ok new else Err fault.Unrecognized
recognized how (Err why) = Err why

-- A file that is wrapped so and holds an old fork, with a fork in its place: the file itself, where the two are the same.
abbrev pub placed : Wrapping → List ℕ → List ℕ → List ℕ → Result (List ℕ) RewrapFault
placed how old file fork = if bytes_eq old fork then Ok file else recognized how (remade how file fork)

-- The same of the fork that was found, or how the wrapper is damaged.
abbrev pub replaced : Result (List ℕ) WrapFault → List ℕ → List ℕ → Result (List ℕ) RewrapFault
replaced (Ok old) file fork = placed (wrapping_of file) old file fork
replaced (Err why) file fork = Err (fault.Damaged why)

-- The file with a fork in the place of its resource fork, wrapped as it was; or why there is no such file.
abbrev pub rewrapped : List ℕ → List ℕ → Result (List ℕ) RewrapFault
rewrapped file fork = replaced (unwrapped file) file fork

-- The fault is what stands in place of a file; nothing is said if the host is out of memory.
abbrev pub Refuses : RewrapFault → Result (List ℕ) RewrapFault → Type 0
Refuses fault.HostMemory made = Unit {0}
Refuses why made = made ≡ Err why

-- The entry at an offset has the ID that it had, and if it is not that of the fork it names the bytes that it named.
pub record IsKept (file new : List ℕ) (at : ℕ) : Type 0 where
  pub id : number 4 at new ≡ number 4 at file
  pub named : is_fork_entry file at ≡ false → entry_part new at ≡ entry_part file at

-- The file is one of AppleSingle or AppleDouble.
abbrev pub has_entries : Wrapping → Bool
has_entries wrapping.AppleSingle = true
has_entries wrapping.AppleDouble = true
has_entries _ = false
