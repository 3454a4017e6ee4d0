use Rattle.std.specs.Prelude.{ℕ, Option, Some, None, Result, Ok, Err, List, [], ◌∷◌, ◌++◌, codes}
use Rattle.bin_hex.specs.File.{File}
use Rattle.fork_wrappers.specs.Info.{data_fork_in}
use Rattle.fork_wrappers.specs.declared.fault.WrapFault.{WrapFault}
use Rattle.fork_commands.specs.declared.fault.FileFault.{FileFault}
use Rattle.fork_commands.specs.declared.fault.FileFault.TheVariants.{Wrapper}
use Rattle.fork_commands.specs.Extracting.{ToWrite, within}
use Rattle.fork_commands.specs.Faults.{made_then}
use Rattle.fork_commands.specs.Info.{info_text}
use Rattle.fork_commands.specs.Opening.{opened}
use Rattle.fork_commands.specs.Reading.{fork_in}

-- The parts of a file, as files of a folder: its data fork, its resource fork, and what is known of it.

-- A data fork that was found, or how the wrapper is damaged.
abbrev pub data_found : Result (Option (List ℕ)) WrapFault → Result (Option (List ℕ)) FileFault
data_found (Ok found) = Ok found
data_found (Err why) = Err (Wrapper why)

-- The data fork by the bytes of a file, or of the file for which they stand.
abbrev pub data_within : List ℕ → Option File → Result (Option (List ℕ)) FileFault
data_within bytes None = data_found (data_fork_in bytes)
data_within bytes (Some file) = Ok (Some file.data_fork)

-- The data fork of a file, if it has one, or how the file is damaged.
unfoldable pub data_in : List ℕ → Result (Option (List ℕ)) FileFault
data_in bytes = made_then (opened bytes) (data_within bytes)

-- A file of the folder.
unfoldable pub part_file : List ℕ → List ℕ → List ℕ → ToWrite
part_file folder name bytes = record { path = within folder name; bytes = bytes }

-- The file of a data fork, which a file may lack.
abbrev pub data_file : List ℕ → Option (List ℕ) → List ToWrite
data_file folder None = []
data_file folder (Some fork) = part_file folder (codes "data") fork ∷ []

-- The files of the parts.
abbrev pub part_files : List ℕ → Option (List ℕ) → List ℕ → List ℕ → List ToWrite
part_files folder contents fork text = data_file folder contents
    ++ (part_file folder (codes "rsrc") fork ∷ part_file folder (codes "info") text ∷ [])

-- The parts of the file in bytes, or how the file is damaged.
abbrev pub parted : List ℕ → List ℕ → Result (List ToWrite) FileFault
parted folder bytes = made_then (data_in bytes) (λ contents. made_then (fork_in bytes) (λ fork.
    made_then (info_text bytes) (λ text. Ok (part_files folder contents fork text))))
