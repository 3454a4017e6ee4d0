use Rattle.std.specs.Prelude.{◌≡◌, ℕ, Option, Ok, List, [], ◌∷◌, length, codes}
use Rattle.fork_edits.specs.Contents.{Listed}
use Rattle.fork_commands.specs.Extracting.{within}
use Rattle.fork_commands.specs.Packing.{listed_in, listed_paths, fork_of_files}
use Rattle.fork_tasks.specs.declared.packing.Packing.{Packing}
use Rattle.fork_tasks.specs.Accesses.{Access, Read, Write, and_then, reads_at, StopsReading, IsUnread, IsPartWritten}
use Rattle.fork_tasks.specs.Fault.{Message, IsForkFault}

-- The fork that a folder states: its list is read, and the files that the list names; then the fork is written. `old` and `new`
-- are the accesses to files before and after.

-- The path of the list.
abbrev pub list_path : Packing → List ℕ
list_path p = within p.folder.now (codes "contents")

-- The files of a list were read, each once, in its order.
abbrev pub reads_listed : Packing → List ℕ → Listed → List (List ℕ) → Option (List Access) → Option (List Access)
reads_listed p text l files old =
    and_then (and_then old (Read (list_path p) text ∷ [])) (reads_at (listed_paths p.folder.now l) files)

-- The list and its files were read, and their fork was written.
abbrev pub Packs : Packing → Option (List Access) → Option (List Access) → Type 0
Packs p old new = (text : List ℕ) × (l : Listed) × (files : List (List ℕ)) × (fork : List ℕ)
    × (listed_in text ≡ Ok l) × (length files ≡ length (listed_paths p.folder.now l)) × (fork_of_files l files ≡ Ok fork)
    × (new ≡ and_then (reads_listed p text l files old) (Write p.out.now fork ∷ []))

-- The list, or a file that it names, can't be read, the list is at fault, the fork is too large, or it was not written to its
-- end.
pub data IsUnpacked (p : Packing) (old new : Option (List Access)) (message : Message) : Type 0 where
  ListUnread : IsUnread (list_path p) old new message → IsUnpacked p old new message
  ListFaulty : (text : List ℕ) → new ≡ and_then old (Read (list_path p) text ∷ [])
      → IsForkFault (list_path p) (listed_in text) message → IsUnpacked p old new message
  FileUnread : (text : List ℕ) (l : Listed) → listed_in text ≡ Ok l
      → StopsReading (listed_paths p.folder.now l) (and_then old (Read (list_path p) text ∷ [])) new message
      → IsUnpacked p old new message
  Unfit : (text : List ℕ) (l : Listed) (files : List (List ℕ)) → listed_in text ≡ Ok l
      → new ≡ reads_listed p text l files old → IsForkFault p.folder.now (fork_of_files l files) message
      → IsUnpacked p old new message
  Unwritten : (text : List ℕ) (l : Listed) (files : List (List ℕ)) (fork : List ℕ) → listed_in text ≡ Ok l
      → fork_of_files l files ≡ Ok fork
      → IsPartWritten p.out.now fork (reads_listed p text l files old) new message → IsUnpacked p old new message
