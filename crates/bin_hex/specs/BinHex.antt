use Rattle.std.specs.Prelude.{ℕ, ◌-◌, false, Option, Some, None, Result, Ok, Err, List, length, if◌then◌else◌}
use Rattle.bin_hex.specs.Contents.{file_in, bytes_of}
use Rattle.bin_hex.specs.Faults.{◌>>=◌}
use Rattle.bin_hex.specs.File.{File}
use Rattle.bin_hex.specs.Packing.{bytes_after, groups_after}
use Rattle.bin_hex.specs.Runs.{expanded, begins_with_run, compressed}
use Rattle.bin_hex.specs.Text.{after_mark, after_colon, sextets, text_of}
use Rattle.bin_hex.specs.declared.fault.Damage.{Damage}
use Rattle.bin_hex.specs.declared.fault.Damage.TheVariants as damage
use Rattle.bin_hex.specs.declared.packing.Held.TheVariants as held
use Rattle.bin_hex.specs.declared.packing.Left.TheVariants as left

-- BinHex 4.0, by Yves Lempereur: a file of the Macintosh as a text that mail carries. RFC 1741, appendix A.

-- The bytes, with runs, that an encoded text stands for, whose first byte stands at an offset in the file.
abbrev pub packed_in : ℕ → List ℕ → Result (List ℕ) Damage
packed_in at text = sextets at text >>= λ groups. Ok (bytes_after held.Nothing groups)

-- The file that bytes with runs stand for.
abbrev pub unpacked : List ℕ → Result File Damage
unpacked packed =
    if begins_with_run packed then Err damage.NoByteToRepeat else file_in (expanded false 0 packed)

-- The file in a text of a number of bytes, from the bytes after the first colon on.
abbrev pub encoded_in : ℕ → Option (List ℕ) → Result File Damage
encoded_in total None = Err damage.NoStart
encoded_in total (Some text) = packed_in (total - length text) text >>= unpacked

-- The same from the bytes after the mark on.
abbrev pub marked_in : ℕ → Option (List ℕ) → Result File Damage
marked_in total None = Err damage.NoMark
marked_in total (Some text) = encoded_in total (after_colon text)

-- The file in the bytes of a BinHex file, or the first damage that a reader meets who takes the text as a whole first, then
-- the bytes part by part.
abbrev pub decoded : List ℕ → Result File Damage
decoded bytes = marked_in (length bytes) (after_mark bytes)

-- The groups of six bits that are written for a file.
abbrev pub groups : File → List ℕ
groups file = groups_after left.Nothing (compressed (bytes_of file))

-- The BinHex file that is written for a file.
abbrev pub encoded : File → List ℕ
encoded file = text_of (groups file)
