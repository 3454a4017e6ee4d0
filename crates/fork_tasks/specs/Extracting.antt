use Rattle.std.specs.Prelude.{◌≡◌, ℕ, Option, Result, Ok, List, [], ◌∷◌, map}
use Rattle.fork_commands.specs.declared.fault.FileFault.{FileFault}
use Rattle.fork_commands.specs.Extracting.{ToWrite, extracted}
use Rattle.fork_commands.specs.Parts.{parted}
use Rattle.fork_tasks.specs.declared.extracting.Extraction.{Extraction}
use Rattle.fork_tasks.specs.declared.extracting.Pieces.{Pieces}
use Rattle.fork_tasks.specs.declared.extracting.Pieces.TheVariants.{Resources, Forks}
use Rattle.fork_tasks.specs.Accesses.{Access, Read, Folder, Write, and_then, IsUnread, StopsAmong}
use Rattle.fork_tasks.specs.Fault.{Message, IsForkFault}

-- A file is read, and what is in it is written into a folder, a file each. `old` and `new` are the accesses to files before and
-- after.

-- What there is to be written: the resources of the fork, and their list; or the forks, and what is known of the file.
abbrev pub to_write : Pieces → List ℕ → List ℕ → Result (List ToWrite) FileFault
to_write Resources folder bytes = extracted folder bytes
to_write Forks folder bytes = parted folder bytes

-- What is written of a file: the folder is made, and the files are written into it, in their order.
abbrev pub write_in : ToWrite → Access
write_in file = Write file.path file.bytes

abbrev pub writes_in : List ℕ → List ToWrite → List Access
writes_in folder files = Folder folder ∷ map write_in files

-- The file was read, and all there is to be written was written.
abbrev pub Extracts : Extraction → Option (List Access) → Option (List Access) → Type 0
Extracts e old new =
    (bytes : List ℕ) × (files : List ToWrite) × (to_write e.pieces e.out.now bytes ≡ Ok files)
    × (new ≡ and_then (and_then old (Read e.fork.now bytes ∷ [])) (writes_in e.out.now files))

-- The file can't be read, its bytes are at fault, or what there is to be written was not written to its end.
pub data IsUnextracted (e : Extraction) (old new : Option (List Access)) (message : Message) : Type 0 where
  Unread : IsUnread e.fork.now old new message → IsUnextracted e old new message
  Faulty : (bytes : List ℕ) → new ≡ and_then old (Read e.fork.now bytes ∷ [])
      → IsForkFault e.fork.now (to_write e.pieces e.out.now bytes) message → IsUnextracted e old new message
  Unwritten : (bytes : List ℕ) (files : List ToWrite) → to_write e.pieces e.out.now bytes ≡ Ok files
      → StopsAmong (writes_in e.out.now files) (and_then old (Read e.fork.now bytes ∷ [])) new message
      → IsUnextracted e old new message
