use Rattle.std.specs.Prelude.{ℕ, Result, Ok, Err, List, map}
use Rattle.fork_edits.specs.Contents.{Entry, Listed}
use Rattle.fork_edits.specs.Listing.{contents_read}
use Rattle.fork_edits.specs.Packing.{packed_content}
use Rattle.fork_edits.specs.declared.entries.LineFault.{LineFault}
use Rattle.fork_commands.specs.declared.fault.FileFault.{FileFault}
use Rattle.fork_commands.specs.declared.fault.FileFault.TheVariants.{Contents}
use Rattle.fork_commands.specs.Extracting.{within}
use Rattle.fork_commands.specs.Works.{canonical}

-- The fork that a folder states: its list, and the files that the list names.

-- What a list says, or its first line that can't be read, as a fault.
abbrev pub list_or_fault : Result Listed (ℕ × LineFault) → Result Listed FileFault
list_or_fault (Ok l) = Ok l
list_or_fault (Err (line, why)) = Err (Contents line why)

abbrev pub listed_in : List ℕ → Result Listed FileFault
listed_in text = list_or_fault (contents_read text)

-- The paths of the files that a list names, in its order.
abbrev pub listed_paths : List ℕ → Listed → List (List ℕ)
listed_paths folder l = map (λ (e : Entry). within folder e.file) l.entries

-- The canonical fork of the content that a list and the bytes of the files state, or -34 (dskFulErr) where it doesn't fit the format of a
-- fork.
abbrev pub fork_of_files : Listed → List (List ℕ) → Result (List ℕ) FileFault
fork_of_files l files = canonical (packed_content l files)
