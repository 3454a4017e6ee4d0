use Rattle.std.specs.Prelude.{ℕ, List, string_bytes}
use Rattle.fork_commands.specs.declared.extracting.FileBytes.{FileBytes}
use Rattle.fork_commands.specs.declared.extracting.FileBytes.TheVariants.{Lent, Own}
use Rattle.fork_commands.specs.declared.extracting.ResourceFile.{ResourceFile}
use Rattle.fork_commands.specs.Extracting.{ToWrite}

-- The bytes of a file, wherever they stand in memory.
abbrev pub bytes_of : FileBytes → List ℕ
bytes_of (Lent bytes) = bytes.now
bytes_of (Own bytes) = bytes.items

-- A file that is written as a value, without the places where its path and its bytes lie in memory.
abbrev pub view_file : ResourceFile → ToWrite
view_file f = record { path = string_bytes f.path; bytes = bytes_of f.bytes }
