use Rattle.std.specs.Prelude.{◌≡◌, ◌≤◌, ℕ, ◌+◌, ◌-◌, List, ◌++◌, length, replicate, take}
use Rattle.checksums.specs.Checksum.{checksum}
use Rattle.byteorder.specs.Endian.{big_bytes}
use Rattle.fork_format.specs.Fork.{number}
use Rattle.fork_wrappers.specs.MacBinary.{padded, data_length, fork_length, secondary_length, least_version}

-- Files that are made of a resource fork, by the layout of a wrapper.

-- A header of AppleSingle or AppleDouble: a magic number, version 2, an empty filler and the number of entries.
abbrev pub header : ℕ → ℕ → List ℕ
header magic entries = big_bytes 4 magic ++ big_bytes 4 0x00020000 ++ replicate 16 0 ++ big_bytes 2 entries

-- An entry: its ID, and the offset and the length of what it names.
abbrev pub entry : ℕ → ℕ → ℕ → List ℕ
entry id offset size = big_bytes 4 id ++ big_bytes 4 offset ++ big_bytes 4 size

-- A file of two entries, in the order in which macOS writes them: the Finder's information (ID 9) and the resource fork
-- (ID 2).
abbrev pub apple_file : ℕ → List ℕ → List ℕ → List ℕ
apple_file magic info fork =
    header magic 2 ++ entry 9 50 (length info) ++ entry 2 (50 + length info) (length fork) ++ info ++ fork

-- Such a file of AppleSingle, and the header file of AppleDouble.
abbrev pub apple_single : List ℕ → List ℕ → List ℕ
apple_single info fork = apple_file 0x00051600 info fork

abbrev pub apple_double : List ℕ → List ℕ → List ℕ
apple_double info fork = apple_file 0x00051607 info fork

-- A MacBinary file: its header, the data fork, what pads the data fork to a multiple of 128 bytes, and the resource fork.
abbrev pub mac_binary : List ℕ → List ℕ → List ℕ → List ℕ
mac_binary header contents fork =
    header ++ (contents ++ (replicate (padded (length contents) - length contents) 0 ++ fork))

-- A MacBinary header of 128 bytes gives the lengths of a data fork and of a resource fork, and no secondary header.
pub record TellsForks (header contents fork : List ℕ) : Type 0 where
  pub size : length header ≡ 128
  pub data_told : data_length header ≡ length contents
  pub fork_told : fork_length header ≡ length fork
  pub no_secondary : secondary_length header ≡ 0

-- The checksum in a MacBinary header is that of the header, and a reader of MacBinary III may read it.
pub record IsChecked (header : List ℕ) : Type 0 where
  pub right : number 2 124 header ≡ checksum (take 124 header)
  pub readable : least_version header ≤ 130
