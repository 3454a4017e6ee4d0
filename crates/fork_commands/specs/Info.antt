use Rattle.std.specs.Prelude.{ℕ, ◌/◌, ◌%◌, Option, Some, None, Result, Ok, List, [], ◌++◌, length, codes, decimal}
use Rattle.bin_hex.specs.File.{File}
use Rattle.mac_roman.specs.declared.charset.Charset.TheVariants.{Ascii}
use Rattle.fork_edits.specs.Texts.{hex_byte, type_text, name_text}
use Rattle.fork_wrappers.specs.Info.{Info, info_of, real_name}
use Rattle.fork_wrappers.specs.declared.wrapping.Wrapping.{Wrapping}
use Rattle.fork_wrappers.specs.declared.wrapping.Wrapping.TheVariants as wrapping
use Rattle.fork_commands.specs.declared.fault.FileFault.{FileFault}
use Rattle.fork_commands.specs.declared.opening.Container.{Container}
use Rattle.fork_commands.specs.declared.opening.Container.TheVariants as container
use Rattle.fork_commands.specs.Dates.{moment, moment_text}
use Rattle.fork_commands.specs.Faults.{made_then}
use Rattle.fork_commands.specs.Opening.{opened}

-- What is known of a file, in lines.

-- A line: what it is of, a blank, and what is known of that.
unfoldable pub line : List ℕ → List ℕ → List ℕ
line label value = label ++ codes " " ++ value ++ codes "\n"

-- The line of what is known; there is none where it is not.
abbrev pub known : {A : Type 0} → List ℕ → (A → List ℕ) → Option A → List ℕ
known label text None = []
known label text (Some value) = line label (text value)

-- A wrapper by its name, and none for a bare fork.
abbrev pub wrapping_text : Wrapping → List ℕ
wrapping_text wrapping.Plain = codes "none"
wrapping_text wrapping.AppleSingle = codes "AppleSingle"
wrapping_text wrapping.AppleDouble = codes "AppleDouble"
wrapping_text wrapping.MacBinaryI = codes "MacBinary I"
wrapping_text wrapping.MacBinaryII = codes "MacBinary II"
wrapping_text wrapping.MacBinaryIII = codes "MacBinary III"

abbrev pub container_text : Container → List ℕ
container_text (container.Wrapped how) = wrapping_text how
container_text container.BinHex = codes "BinHex"

-- A name in quotes.
unfoldable pub quoted : List ℕ → List ℕ
quoted name = name_text Ascii (Some name)

-- A type or a creator.
unfoldable pub kind_text : ℕ → List ℕ
kind_text kind = type_text Ascii kind

-- The Finder's flags, as a dollar sign and four hexadecimal digits.
unfoldable pub flags_text : ℕ → List ℕ
flags_text flags = codes "$" ++ hex_byte (flags / 256) ++ hex_byte (flags % 256)

-- The date and the time of a number of seconds from the midnight that begins 1904.
unfoldable pub seconds_text : ℕ → List ℕ
seconds_text seconds = moment_text (moment seconds)

-- The length of a resource fork; none where the wrapper has no entry of one.
abbrev pub length_text : Option ℕ → List ℕ
length_text None = codes "none"
length_text (Some len) = decimal len

-- The lines of what a file is called and what it is, of its dates, and of the lengths of its forks.
unfoldable pub finder_lines : Info → List ℕ
finder_lines f = known (codes "name") quoted f.name ++ known (codes "type") kind_text f.file_type
    ++ known (codes "creator") kind_text f.creator ++ known (codes "flags") flags_text f.flags

unfoldable pub date_lines : Info → List ℕ
date_lines f = known (codes "created") seconds_text f.created ++ known (codes "changed") seconds_text f.changed

unfoldable pub length_lines : Info → List ℕ
length_lines f = known (codes "data") decimal f.data_len ++ line (codes "resource") (length_text f.fork_len)

-- The lines of a file that stands in a container: that, and all else that is known. Of a bare fork nothing else is known.
abbrev pub other_lines : Container → Info → List ℕ
other_lines (container.Wrapped wrapping.Plain) f = []
other_lines _ f = finder_lines f ++ date_lines f ++ length_lines f

abbrev pub info_lines : Container → Info → List ℕ
info_lines how f = line (codes "wrapper") (container_text how) ++ other_lines how f

-- What is known of the file for which a BinHex file stands, which has no dates. No wrapper is known by its bytes.
abbrev pub decoded_info : File → Info
decoded_info file = record {
  wrapping = wrapping.Plain;
  name = real_name (Some file.name);
  file_type = Some file.kind;
  creator = Some file.creator;
  flags = Some file.flags;
  created = None;
  changed = None;
  data_len = Some (length file.data_fork);
  fork_len = Some (length file.resource_fork);
}

-- What is known of a file by its bytes, or by the file for which they stand.
unfoldable pub info_within : List ℕ → Option File → List ℕ
info_within bytes None = info_lines (container.Wrapped (info_of bytes).wrapping) (info_of bytes)
info_within bytes (Some file) = info_lines container.BinHex (decoded_info file)

-- What is known of a file, or how it is damaged, if that keeps it from being opened.
unfoldable pub info_text : List ℕ → Result (List ℕ) FileFault
info_text bytes = made_then (opened bytes) (λ file. Ok (info_within bytes file))
