use Rattle.std.specs.Prelude.{◌≡◌, ◌&&◌, not, ℕ, Bool, true, false, List, Option, Some, None, Result, Ok, Err, if◌then◌else◌}
use Rattle.bin_hex.specs.BinHex.{decoded}
use Rattle.bin_hex.specs.File.{File, view}
use Rattle.bin_hex.specs.Text.{is_bin_hex}
use Rattle.bin_hex.specs.declared.fault.Damage.{Damage}
use Rattle.fork_format.specs.Fork.{is_fork}
use Rattle.fork_wrappers.specs.Unwrapped.{wrapping_of}
use Rattle.fork_wrappers.specs.declared.wrapping.Wrapping.{Wrapping}
use Rattle.fork_wrappers.specs.declared.wrapping.Wrapping.TheVariants as wrapping
use Rattle.fork_commands.specs.declared.fault.FileFault.{FileFault}
use Rattle.fork_commands.specs.declared.fault.FileFault.TheVariants as fault
use Rattle.fork_commands.specs.declared.opening.Container.{Container}
use Rattle.fork_commands.specs.declared.opening.Container.TheVariants as container
use Rattle.fork_commands.specs.declared.opening.OpenFile.{OpenFile}
use Rattle.fork_commands.specs.declared.opening.OpenFile.TheVariants as open_file

-- What the bytes of a file stand for: themselves, or, in a BinHex file, a file of the Macintosh. RFC 1741, appendix A.

-- No wrapper is known by the bytes.
abbrev pub is_unwrapped : Wrapping → Bool
is_unwrapped wrapping.Plain = true
is_unwrapped _ = false

-- The file is encoded: its bytes are in no wrapper, they are no resource fork, and they are those of a BinHex file.
unfoldable pub is_encoded : List ℕ → Bool
is_encoded bytes = is_unwrapped (wrapping_of bytes) && not (is_fork bytes) && is_bin_hex bytes

-- The file that a BinHex file stands for, or how that is damaged.
abbrev pub decoded_or_fault : Result File Damage → Result (Option File) FileFault
decoded_or_fault (Ok file) = Ok (Some file)
decoded_or_fault (Err damage) = Err (fault.BinHex damage)

-- The file of the Macintosh for which the bytes of an encoded file stand, or how they are damaged; none where a file is not
-- encoded.
unfoldable pub opened : List ℕ → Result (Option File) FileFault
opened bytes = if is_encoded bytes then decoded_or_fault (decoded bytes) else Ok None

-- In what the resource fork stands: in BinHex, or as the bytes are wrapped.
unfoldable pub container_of : List ℕ → Container
container_of bytes = if is_encoded bytes then container.BinHex else container.Wrapped (wrapping_of bytes)

-- The bytes of a file that was opened.
abbrev pub bytes_of : OpenFile → List ℕ
bytes_of (open_file.Fork bytes) = bytes.now
bytes_of (open_file.Plain bytes) = bytes.now
bytes_of (open_file.BinHex bytes file) = bytes.now

-- What holds of each file that was opened: its bytes are a resource fork, or they stand for themselves, or for the file
-- that was decoded.
abbrev pub IsOpen : OpenFile → Type 0
IsOpen (open_file.Fork bytes) = is_fork bytes.now ≡ true
IsOpen (open_file.Plain bytes) = opened bytes.now ≡ Ok None
IsOpen (open_file.BinHex bytes file) = opened bytes.now ≡ Ok (Some (view file))
