use Rattle.fork_wrappers.proofs.Cited.{◌≡◌, ℕ, List, [], ◌∷◌, ◌++◌, replicate, take, drop, set, refl, Ok, Err, with_bits, hi_fork, padded}
use Rattle.fork_wrappers.proofs.Cited.{apple_double, mac_binary, TellsForks, rewrapped, wrapping_of, unwrapped}
use Rattle.fork_wrappers.specs.declared.wrapping.Wrapping.TheVariants as wrapping
use Rattle.fork_wrappers.specs.declared.fault.WrapFault.TheVariants as wrap_fault
use Rattle.fork_wrappers.specs.declared.fault.EntriesFault.TheVariants as entries_fault
use Rattle.fork_wrappers.specs.declared.fault.MacBinaryFault.TheVariants as mac_binary_fault
use Rattle.fork_wrappers.specs.declared.fault.RewrapFault.TheVariants as rewrap_fault

-- lengths rounded up
paddings : (padded 0 ≡ 0) × (padded 1 ≡ 128) × (padded 128 ≡ 128) × (padded 129 ≡ 256)
paddings = (refl, refl, refl, refl)

-- a plain fork
plain : unwrapped hi_fork ≡ Ok hi_fork
plain = refl

-- AppleDouble as macOS writes it: Finder info first, then the fork of 80 0A FF
abbrev double : List ℕ
double = (0 ∷ 5 ∷ 22 ∷ 7 ∷ 0 ∷ 2 ∷ 0 ∷ 0 ∷ []) ++ (77 ∷ 97 ∷ 99 ∷ 32 ∷ 79 ∷ 83 ∷ 32 ∷ 88 ∷ []) ++ replicate 8 32
    ++ (0 ∷ 2 ∷ []) ++ (0 ∷ 0 ∷ 0 ∷ 9 ∷ 0 ∷ 0 ∷ 0 ∷ 50 ∷ 0 ∷ 0 ∷ 0 ∷ 32 ∷ [])
    ++ (0 ∷ 0 ∷ 0 ∷ 2 ∷ 0 ∷ 0 ∷ 0 ∷ 82 ∷ 0 ∷ 0 ∷ 0 ∷ 3 ∷ []) ++ replicate 32 7 ++ (128 ∷ 10 ∷ 255 ∷ [])

-- the same with an empty filler, by its parts
double_made : apple_double (replicate 32 7) (128 ∷ 10 ∷ 255 ∷ []) ≡ take 8 double ++ replicate 16 0 ++ drop 24 double
double_made = refl

in_double : unwrapped double ≡ Ok (128 ∷ 10 ∷ 255 ∷ [])
in_double = refl

is_double : wrapping_of double ≡ wrapping.AppleDouble
is_double = refl

-- its header, its list of entries and its last entry cut off
double_cut : (unwrapped (take 25 double) ≡ Err (wrap_fault.AppleDouble entries_fault.HeaderCutOff))
    × (unwrapped (take 49 double) ≡ Err (wrap_fault.AppleDouble entries_fault.EntriesCutOff))
    × (unwrapped (take 84 double) ≡ Err (wrap_fault.AppleDouble entries_fault.EntryOutside))
double_cut = (refl, refl, refl)

-- three bytes of a magic number are none
no_magic : unwrapped (take 3 double) ≡ Ok (0 ∷ 5 ∷ 22 ∷ [])
no_magic = refl

-- a version that is not known
other_version : unwrapped (take 5 double ++ 3 ∷ drop 6 double) ≡ Err (wrap_fault.AppleDouble entries_fault.UnknownVersion)
other_version = refl

-- with both entries of the resource fork, and with none
several : unwrapped (take 29 double ++ 2 ∷ drop 30 double) ≡ Err (wrap_fault.AppleDouble entries_fault.SeveralForks)
several = refl

without_fork : unwrapped (take 41 double ++ 3 ∷ drop 42 double) ≡ Ok []
without_fork = refl

-- the same as AppleSingle
in_single : unwrapped (0 ∷ 5 ∷ 22 ∷ 0 ∷ drop 4 double) ≡ Ok (128 ∷ 10 ∷ 255 ∷ [])
in_single = refl

-- a MacBinary header with a name of one letter, a data fork of 5 bytes and a resource fork of 3
abbrev header : List ℕ → List ℕ
header rest = (0 ∷ 1 ∷ 65 ∷ []) ++ replicate 80 0 ++ (0 ∷ 0 ∷ 0 ∷ 5 ∷ 0 ∷ 0 ∷ 0 ∷ 3 ∷ []) ++ replicate 11 0 ++ rest

abbrev forks : List ℕ
forks = (1 ∷ 2 ∷ 3 ∷ 4 ∷ 5 ∷ []) ++ replicate 123 0 ++ (128 ∷ 10 ∷ 255 ∷ [])

abbrev first : List ℕ
first = header (replicate 26 0) ++ forks

in_first : (unwrapped first ≡ Ok (128 ∷ 10 ∷ 255 ∷ [])) × (wrapping_of first ≡ wrapping.MacBinaryI)
in_first = (refl, refl)

-- the same by its parts
first_made : mac_binary (header (replicate 26 0)) (1 ∷ 2 ∷ 3 ∷ 4 ∷ 5 ∷ []) (128 ∷ 10 ∷ 255 ∷ []) ≡ first
first_made = refl

first_tells : TellsForks (header (replicate 26 0)) (1 ∷ 2 ∷ 3 ∷ 4 ∷ 5 ∷ []) (128 ∷ 10 ∷ 255 ∷ [])
first_tells = record { size = refl; data_told = refl; fork_told = refl; no_secondary = refl }

-- its forks cut off
first_cut : (unwrapped (take 132 first) ≡ Err (wrap_fault.MacBinary mac_binary_fault.DataForkOutside))
    × (unwrapped (take 258 first) ≡ Err (wrap_fault.MacBinary mac_binary_fault.ResourceForkOutside))
    × (unwrapped (take 127 first) ≡ Ok (take 127 first))
first_cut = (refl, refl, refl)

-- MacBinary II and III, whose checksums are F259 and AC51 as Python's binascii.crc_hqx reckons them
abbrev second : List ℕ
second = header (replicate 20 0 ++ (129 ∷ 129 ∷ 0xF2 ∷ 0x59 ∷ 0 ∷ 0 ∷ [])) ++ forks

abbrev third : List ℕ
third = header ((109 ∷ 66 ∷ 73 ∷ 78 ∷ []) ++ replicate 16 0 ++ (130 ∷ 129 ∷ 0xAC ∷ 0x51 ∷ 0 ∷ 0 ∷ [])) ++ forks

in_second : (unwrapped second ≡ Ok (128 ∷ 10 ∷ 255 ∷ [])) × (wrapping_of second ≡ wrapping.MacBinaryII)
unfolding with_bits
in_second = (refl, refl)

in_third : (unwrapped third ≡ Ok (128 ∷ 10 ∷ 255 ∷ [])) × (wrapping_of third ≡ wrapping.MacBinaryIII)
unfolding with_bits
in_third = (refl, refl)

-- a letter of the name changed, and a later version asked for, whose checksum is BF22
other_name : unwrapped (take 2 second ++ 66 ∷ drop 3 second) ≡ Err (wrap_fault.MacBinary mac_binary_fault.WrongChecksum)
unfolding with_bits
other_name = refl

later : unwrapped (header ((109 ∷ 66 ∷ 73 ∷ 78 ∷ []) ++ replicate 16 0 ++ (131 ∷ 131 ∷ 0xBF ∷ 0x22 ∷ 0 ∷ 0 ∷ [])) ++ forks)
    ≡ Err (wrap_fault.MacBinary mac_binary_fault.LaterVersion)
unfolding with_bits
later = refl

-- what is none of MacBinary I: a control character in the name, no fork with bytes, and bytes after the padded forks; with a
-- comment of 3 bytes these are the comment
abbrev padded_first : List ℕ
padded_first = first ++ replicate 125 0

no_first : (wrapping_of (take 2 first ++ 13 ∷ drop 3 first) ≡ wrapping.Plain)
    × (wrapping_of ((0 ∷ 1 ∷ 65 ∷ []) ++ replicate 125 0) ≡ wrapping.Plain)
    × (wrapping_of padded_first ≡ wrapping.MacBinaryI)
    × (wrapping_of (padded_first ++ 33 ∷ []) ≡ wrapping.Plain)
    × (wrapping_of (take 100 first ++ 3 ∷ drop 101 padded_first ++ 72 ∷ 105 ∷ 33 ∷ []) ≡ wrapping.MacBinaryI)
    × (wrapping_of (take 2 first ++ 128 ∷ drop 3 first) ≡ wrapping.MacBinaryI)
no_first = (refl, refl, refl, refl, refl, refl)

-- a fork with one byte changed, which is then no fork, is plain
damaged : (wrapping_of (0 ∷ 1 ∷ drop 2 hi_fork) ≡ wrapping.Plain) × (wrapping_of (set hi_fork 1 32) ≡ wrapping.Plain)
damaged = (refl, refl)

-- a bare fork takes the place of a bare fork; bytes that begin as a wrapper does would be taken for one
plain_rewrapped : (rewrapped hi_fork [] ≡ Ok []) × (rewrapped [] hi_fork ≡ Ok hi_fork)
    × (rewrapped hi_fork double ≡ Err rewrap_fault.Unrecognized)
plain_rewrapped = (refl, refl, refl)

-- AppleDouble with a fork of two bytes: the length in the entry, and the bytes at the end
double_rewrapped : rewrapped double (1 ∷ 2 ∷ []) ≡ Ok (take 49 double ++ (2 ∷ []) ++ replicate 32 7 ++ (1 ∷ 2 ∷ []))
double_rewrapped = refl

-- with the fork that it holds it stays as it is
double_kept : rewrapped double (128 ∷ 10 ∷ 255 ∷ []) ≡ Ok double
double_kept = refl

-- a header of AppleSingle with two entries, of which the second one names 3 bytes
abbrev single : List ℕ → List ℕ
single entries = (0 ∷ 5 ∷ 22 ∷ 0 ∷ 0 ∷ 2 ∷ 0 ∷ 0 ∷ []) ++ replicate 16 0 ++ (0 ∷ 2 ∷ []) ++ entries

-- the fork of 3 bytes at 51, between a byte that no entry names and the data fork (ID 1) of 2 bytes at 55; a byte follows
-- each. With a fork of 5 bytes the data fork is at 57, with none at 52
abbrev between : List ℕ
between = single ((0 ∷ 0 ∷ 0 ∷ 1 ∷ 0 ∷ 0 ∷ 0 ∷ 55 ∷ 0 ∷ 0 ∷ 0 ∷ 2 ∷ []) ++ (0 ∷ 0 ∷ 0 ∷ 2 ∷ 0 ∷ 0 ∷ 0 ∷ 51 ∷ 0 ∷ 0 ∷ 0 ∷ 3 ∷ []))
    ++ (99 ∷ 1 ∷ 2 ∷ 3 ∷ 98 ∷ 68 ∷ 68 ∷ 97 ∷ [])

between_rewrapped : (rewrapped between (5 ∷ 6 ∷ 7 ∷ 8 ∷ 9 ∷ []) ≡ Ok (single ((0 ∷ 0 ∷ 0 ∷ 1 ∷ 0 ∷ 0 ∷ 0 ∷ 57 ∷ 0 ∷ 0 ∷ 0 ∷ 2 ∷ [])
    ++ (0 ∷ 0 ∷ 0 ∷ 2 ∷ 0 ∷ 0 ∷ 0 ∷ 51 ∷ 0 ∷ 0 ∷ 0 ∷ 5 ∷ [])) ++ (99 ∷ 5 ∷ 6 ∷ 7 ∷ 8 ∷ 9 ∷ 98 ∷ 68 ∷ 68 ∷ 97 ∷ [])))
    × (rewrapped between [] ≡ Ok (single ((0 ∷ 0 ∷ 0 ∷ 1 ∷ 0 ∷ 0 ∷ 0 ∷ 52 ∷ 0 ∷ 0 ∷ 0 ∷ 2 ∷ [])
    ++ (0 ∷ 0 ∷ 0 ∷ 2 ∷ 0 ∷ 0 ∷ 0 ∷ 51 ∷ 0 ∷ 0 ∷ 0 ∷ 0 ∷ [])) ++ (99 ∷ 98 ∷ 68 ∷ 68 ∷ 97 ∷ [])))
between_rewrapped = (refl, refl)

-- an entry of 2 bytes whose last one is the fork's first, and one that names the list of entries
overlapping : (rewrapped (take 33 between ++ 50 ∷ drop 34 between) (5 ∷ []) ≡ Err rewrap_fault.Overlap)
    × (rewrapped (take 33 between ++ 26 ∷ drop 34 between) (5 ∷ []) ≡ Err rewrap_fault.Overlap)
overlapping = (refl, refl)

-- one entry, of the data fork (2 bytes at 38, and one that follows): the list gets an entry of the fork, which stands last
abbrev lone : List ℕ
lone = (0 ∷ 5 ∷ 22 ∷ 0 ∷ 0 ∷ 2 ∷ 0 ∷ 0 ∷ []) ++ replicate 16 0
    ++ (0 ∷ 1 ∷ 0 ∷ 0 ∷ 0 ∷ 1 ∷ 0 ∷ 0 ∷ 0 ∷ 38 ∷ 0 ∷ 0 ∷ 0 ∷ 2 ∷ []) ++ (68 ∷ 68 ∷ 97 ∷ [])

lone_rewrapped : (rewrapped lone (5 ∷ 6 ∷ []) ≡ Ok (single ((0 ∷ 0 ∷ 0 ∷ 1 ∷ 0 ∷ 0 ∷ 0 ∷ 50 ∷ 0 ∷ 0 ∷ 0 ∷ 2 ∷ [])
    ++ (0 ∷ 0 ∷ 0 ∷ 2 ∷ 0 ∷ 0 ∷ 0 ∷ 53 ∷ 0 ∷ 0 ∷ 0 ∷ 2 ∷ [])) ++ (68 ∷ 68 ∷ 97 ∷ 5 ∷ 6 ∷ [])))
    × (rewrapped lone [] ≡ Ok lone)
lone_rewrapped = (refl, refl)

-- a damaged file is refused with its fault
damaged_rewrapped : rewrapped (take 25 double) [] ≡ Err (rewrap_fault.Damaged (wrap_fault.AppleDouble entries_fault.HeaderCutOff))
damaged_rewrapped = refl

-- a MacBinary header as above, with a resource fork of another length
abbrev header_of : ℕ → List ℕ → List ℕ
header_of n rest = (0 ∷ 1 ∷ 65 ∷ []) ++ replicate 80 0 ++ (0 ∷ 0 ∷ 0 ∷ 5 ∷ 0 ∷ 0 ∷ 0 ∷ n ∷ []) ++ replicate 11 0 ++ rest

-- the padded data fork, and after it a fork of two bytes, which is padded
abbrev new_forks : List ℕ
new_forks = (1 ∷ 2 ∷ 3 ∷ 4 ∷ 5 ∷ []) ++ replicate 123 0 ++ (7 ∷ 8 ∷ []) ++ replicate 126 0

first_rewrapped : (rewrapped first (7 ∷ 8 ∷ []) ≡ Ok (header_of 2 (replicate 26 0) ++ new_forks))
    × (rewrapped (padded_first) (7 ∷ 8 ∷ []) ≡ Ok (header_of 2 (replicate 26 0) ++ new_forks))
    × (rewrapped first (128 ∷ 10 ∷ 255 ∷ []) ≡ Ok first)
first_rewrapped = (refl, refl, refl)

-- the comment of 3 bytes that follows stays
comment_kept : rewrapped (take 100 first ++ 3 ∷ drop 101 padded_first ++ 72 ∷ 105 ∷ 33 ∷ []) (7 ∷ 8 ∷ [])
    ≡ Ok (take 100 (header_of 2 (replicate 26 0)) ++ 3 ∷ replicate 27 0 ++ new_forks ++ 72 ∷ 105 ∷ 33 ∷ [])
comment_kept = refl

-- MacBinary I has no magic number: with no bytes in either fork it would not be known
first_emptied : rewrapped ((0 ∷ 1 ∷ 65 ∷ []) ++ replicate 84 0 ++ (0 ∷ 0 ∷ 0 ∷ 1 ∷ []) ++ replicate 37 0 ++ 9 ∷ []) []
    ≡ Err rewrap_fault.Unrecognized
first_emptied = refl

-- MacBinary II and III, whose checksums become 6E7C and 3074 as Python's binascii.crc_hqx reckons them
second_rewrapped : rewrapped second (7 ∷ 8 ∷ [])
    ≡ Ok (header_of 2 (replicate 20 0 ++ (129 ∷ 129 ∷ 0x6E ∷ 0x7C ∷ 0 ∷ 0 ∷ [])) ++ new_forks)
unfolding with_bits
second_rewrapped = refl

third_rewrapped : rewrapped third (7 ∷ 8 ∷ [])
    ≡ Ok (header_of 2 ((109 ∷ 66 ∷ 73 ∷ 78 ∷ []) ++ replicate 16 0 ++ (130 ∷ 129 ∷ 0x30 ∷ 0x74 ∷ 0 ∷ 0 ∷ [])) ++ new_forks)
unfolding with_bits
third_rewrapped = refl
