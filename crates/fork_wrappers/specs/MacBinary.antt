use Rattle.std.specs.Prelude.{ℕ, ◌+◌, ◌*◌, ◌/◌, Bool, ◌&&◌, not, ◌==◌, nat_le, nat_lt, List, length, take}
use Rattle.std.specs.Prelude.{Result, Ok, Err, if◌then◌else◌}
use Rattle.std.specs.List.{list_all}
use Rattle.checksums.specs.Checksum.{checksum}
use Rattle.fork_format.specs.Fork.{number, part}
use Rattle.fork_wrappers.specs.declared.fault.MacBinaryFault.{MacBinaryFault}
use Rattle.fork_wrappers.specs.declared.fault.MacBinaryFault.TheVariants as fault

-- MacBinary files: a header of 128 bytes, a secondary header that a reader passes over, the data fork and the resource
-- fork, each of which begins at a multiple of 128 bytes. MacBinary Transfer Format (1985); MacBinary II Standard (1987);
-- MacBinary III (1996).

-- The bytes begin as every MacBinary header does: there are 128 of them, those at 0, 74 and 82 are 0, and the length of
-- the file's name, at 1, is 1 to 63.
abbrev pub is_header : List ℕ → Bool
is_header bytes =
    nat_le 128 (length bytes) && number 1 0 bytes == 0 && number 1 74 bytes == 0 && number 1 82 bytes == 0
    && nat_le 1 (number 1 1 bytes) && nat_le (number 1 1 bytes) 63

-- The length of the data fork.
abbrev pub data_length : List ℕ → ℕ
data_length bytes = number 4 83 bytes

-- The length of the resource fork.
abbrev pub fork_length : List ℕ → ℕ
fork_length bytes = number 4 87 bytes

-- The length of the secondary header, which MacBinary I leaves 0.
abbrev pub secondary_length : List ℕ → ℕ
secondary_length bytes = number 2 120 bytes

-- The least version of a reader: 129 for MacBinary II, 130 for III.
abbrev pub least_version : List ℕ → ℕ
least_version bytes = number 1 123 bytes

-- The header is one of MacBinary III: 'mBIN' stands at 102.
abbrev pub is_third : List ℕ → Bool
is_third bytes = is_header bytes && number 4 102 bytes == 0x6D42494E

-- The header is one of MacBinary II: the version at 122 and the least version at 123 are 129 or more.
abbrev pub is_second : List ℕ → Bool
is_second bytes = is_header bytes && nat_le 129 (number 1 122 bytes) && nat_le 129 (least_version bytes)

-- A length rounded up to a multiple of 128.
abbrev pub padded : ℕ → ℕ
padded length = (length + 127) / 128 * 128

-- Where the data fork begins.
abbrev pub data_place : List ℕ → ℕ
data_place bytes = 128 + padded (secondary_length bytes)

-- Where the resource fork begins.
abbrev pub fork_place : List ℕ → ℕ
fork_place bytes = data_place bytes + padded (data_length bytes)

-- The length of the Finder's comment that follows the resource fork.
abbrev pub comment_length : List ℕ → ℕ
comment_length bytes = number 2 99 bytes

-- The greatest length of a file: each of its forks and the comment are padded to a multiple of 128 bytes.
abbrev pub greatest_length : List ℕ → ℕ
greatest_length bytes = fork_place bytes + padded (fork_length bytes) + padded (comment_length bytes)

-- A character that can be printed: no control character (0 to 31, and 127). In the Macintosh's character set those above
-- 127 are letters and signs.
abbrev pub is_printable : ℕ → Bool
is_printable character = nat_le 32 character && not (character == 127)

-- The file's name.
abbrev pub name : List ℕ → List ℕ
name bytes = part (number 1 1 bytes) 2 bytes

-- The header may be one of MacBinary I, as the standard of MacBinary II has it: the bytes 101 to 125 are 0, and no fork is
-- longer than 7FFFFF.
abbrev pub is_old_header : List ℕ → Bool
is_old_header bytes = is_header bytes && list_all (λ byte. byte == 0) (part 25 101 bytes)
    && nat_le (data_length bytes) 0x7FFFFF && nat_le (fork_length bytes) 0x7FFFFF

-- The file is one of MacBinary I. That has neither a magic number nor a checksum, so more is asked of it, lest a damaged
-- resource fork be taken for one: the name can be printed, a fork has bytes, and after the last fork and the comment stand
-- no more bytes than pad them. The end of the file may be missing.
abbrev pub is_first : List ℕ → Bool
is_first bytes = is_old_header bytes && list_all is_printable (name bytes)
    && nat_lt 0 (data_length bytes + fork_length bytes) && nat_le (length bytes) (greatest_length bytes)

-- The resource fork in a MacBinary file whose header is as it should be; the first fault, where a fork is not in the
-- file. What follows the last fork may be missing: so may the padding of the data fork, where the resource fork is empty.
abbrev pub fork_behind : List ℕ → Result (List ℕ) MacBinaryFault
fork_behind bytes =
    if nat_lt (length bytes) (data_place bytes + data_length bytes) then Err fault.DataForkOutside
    else if nat_lt 0 (fork_length bytes) && nat_lt (length bytes) (fork_place bytes + fork_length bytes)
    then Err fault.ResourceForkOutside
    else Ok (part (fork_length bytes) (fork_place bytes) bytes)

-- The same for MacBinary II and III: the checksum at 124, of the 124 bytes before it, is judged first, and then whether a
-- later version than MacBinary III is needed.
abbrev pub checked_fork : List ℕ → Result (List ℕ) MacBinaryFault
checked_fork bytes =
    if not (number 2 124 bytes == checksum (take 124 bytes)) then Err fault.WrongChecksum
    else if nat_lt 130 (least_version bytes) then Err fault.LaterVersion
    else fork_behind bytes
