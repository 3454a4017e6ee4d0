use Rattle.std.specs.Prelude.{◌≡◌, ℕ, Option, Some, None, Result, Ok, Err, List, [], ◌∷◌, length, map, codes, bytes_eq, if◌then◌else◌}
use Rattle.std.specs.Borrow.{Bor}
use Rattle.std.specs.Option.{unwrap_or}
use Rattle.std.specs.Path.{path_join, path_parent}
use Rattle.rez_statements.specs.Types.{Declared}
use Rattle.fork_commands.specs.declared.packaging.Packaging.TheVariants.{AsRead}
use Rattle.fork_commands.specs.Packaging.{packed}
use Rattle.fork_commands.specs.Sources.{Unassembled, Faulty, Lacks, assembled, file_name}
use Rattle.fork_tasks.specs.declared.assembling.Assembly.{Assembly}
use Rattle.fork_tasks.specs.declared.delivering.Target.TheVariants.{NewFile}
use Rattle.fork_tasks.specs.Accesses.{Access, Read, and_then, reads_at, IsUnread, StopsReading}
use Rattle.fork_tasks.specs.Declaring.{Knows, IsUnknown}
use Rattle.fork_tasks.specs.Delivering.{Delivers, IsUndelivered}
use Rattle.fork_tasks.specs.Fault.{Message, Usage, CannotRead, Script, Fork, CannotWrite, HostMemory, NotLaunched, Dump, IsForkFault}

-- The fork that a source of Rez states is written: files of declarations are read, then the source, then the files that its
-- statements `read` name, then the file into which the fork is put. `p` and `q` are the bytes that have been printed before and
-- after, `old` and `new` the accesses to files.

-- The folder of a source, as its path was given: that of the standard input is the current one.
abbrev pub folder_of : List ℕ → List ℕ
folder_of source = if bytes_eq source (codes "/dev/stdin") then [] else unwrap_or (path_parent source) []

-- The path of a file that a source names: from the source's folder, unless it begins with a slash.
abbrev pub path_from : List ℕ → List ℕ → List ℕ
path_from source name = path_join (folder_of source) (file_name name)

-- The names of the files that are to be read.
abbrev pub lacked : Result (List ℕ) Unassembled → List (List ℕ)
lacked (Ok fork) = []
lacked (Err (Faulty fault)) = []
lacked (Err (Lacks names)) = names

-- The paths of the files that a text names, which is the source at this path.
abbrev pub paths_named : List ℕ → List Declared → List ℕ → List (List ℕ)
paths_named source known text = map (path_from source) (lacked (assembled known [] text))

-- The fault of a source; if the host is out of memory nothing is said of it.
abbrev pub IsSourceFault : {A : Type 0} → List ℕ → Result A Unassembled → Message → Type 0
IsSourceFault path made HostMemory = Unit {0}
IsSourceFault path made (Fork named fault) = (named ≡ path) × (made ≡ Err (Faulty fault))
IsSourceFault path made (Usage message) = ⊥
IsSourceFault path made (CannotRead named) = ⊥
IsSourceFault path made (Script named line kind) = ⊥
IsSourceFault path made (CannotWrite named) = ⊥
IsSourceFault path made (NotLaunched named app) = ⊥
IsSourceFault path made (Dump named why) = ⊥

-- The files that a text names were read, each once, in its order, and with them it states a fork.
pub record States (source : List ℕ) (known : List Declared) (text fork : List ℕ) (old new : Option (List Access)) : Type 0 where
  pub files : List (List ℕ)
  pub count : length files ≡ length (paths_named source known text)
  pub made : assembled known files text ≡ Ok fork
  pub reads : new ≡ and_then old (reads_at (paths_named source known text) files)

-- A file that a text names can't be read, or the text is at fault.
pub data IsUnstated
    (source : List ℕ) (known : List Declared) (text : List ℕ) (old new : Option (List Access)) (message : Message) : Type 0 where
  Unread : StopsReading (paths_named source known text) old new message → IsUnstated source known text old new message
  Refused : (files : List (List ℕ)) → length files ≡ length (paths_named source known text)
      → new ≡ and_then old (reads_at (paths_named source known text) files)
      → IsSourceFault source (assembled known files text) message → IsUnstated source known text old new message

-- The source was read, and so were the files that it names; it states a fork.
abbrev pub Forks : List ℕ → List Declared → List ℕ → Option (List Access) → Option (List Access) → Type 0
Forks source known fork old new = (text : List ℕ) × States source known text fork (and_then old (Read source text ∷ [])) new

-- The source, or a file that it names, can't be read, or the source is at fault.
pub data IsUnforked (source : List ℕ) (known : List Declared) (old new : Option (List Access)) (message : Message) : Type 0 where
  SourceUnread : IsUnread source old new message → IsUnforked source known old new message
  Unstated : (text : List ℕ) → IsUnstated source known text (and_then old (Read source text ∷ [])) new message
      → IsUnforked source known old new message

-- A file was read, and the fork is put in the place of its own.
abbrev pub Puts : List ℕ → List ℕ → List ℕ → Option (List Access) → Option (List Access) → Type 0
Puts path fork out old new =
    (file : List ℕ) × (packed AsRead file fork ≡ Ok out) × (new ≡ and_then old (Read path file ∷ []))

-- The file can't be read, or the fork doesn't fit it.
pub data IsUnput (path fork : List ℕ) (old new : Option (List Access)) (message : Message) : Type 0 where
  FileUnread : IsUnread path old new message → IsUnput path fork old new message
  Unfit : (file : List ℕ) → new ≡ and_then old (Read path file ∷ []) → IsForkFault path (packed AsRead file fork) message
      → IsUnput path fork old new message

-- The fork is taken as it is, or put into a file.
abbrev pub Places : Option (Bor (List ℕ)) → List ℕ → List ℕ → Option (List Access) → Option (List Access) → Type 0
Places None fork out old new = (out ≡ fork) × (new ≡ old)
Places (Some path) fork out old new = Puts path.now fork out old new

abbrev pub IsUnplaced : Option (Bor (List ℕ)) → List ℕ → Option (List Access) → Option (List Access) → Message → Type 0
IsUnplaced None fork old new message = ⊥
IsUnplaced (Some path) fork old new message = IsUnput path.now fork old new message

-- The paths of the files of declarations.
abbrev pub types_read : Assembly → List (List ℕ)
types_read a = map (λ path. path.now) a.types.items

-- All files were read, and the fork was written.
pub record Assembles (a : Assembly) (p q : Option (List ℕ)) (old new : Option (List Access)) : Type 0 where
  pub known : List Declared
  pub first : Option (List Access)
  pub knows : Knows (types_read a) known old first
  pub fork : List ℕ
  pub mid : Option (List Access)
  pub forks : Forks a.source.now known fork first mid
  pub out : List ℕ
  pub last : Option (List Access)
  pub places : Places a.into fork out mid last
  pub writes : Delivers (NewFile a.out) out p q last new

-- The first that stopped it: the types of a file were not declared, the source states no fork, the fork was not put into a file, or
-- it was not written to its end.
pub data IsUnassembled
    (a : Assembly) (p q : Option (List ℕ)) (old new : Option (List Access)) (message : Message) : Type 0 where
  Unknown : q ≡ p → IsUnknown (types_read a) old new message → IsUnassembled a p q old new message
  Unforked : (known : List Declared) (first : Option (List Access)) → q ≡ p → Knows (types_read a) known old first
      → IsUnforked a.source.now known first new message → IsUnassembled a p q old new message
  Unplaced : (known : List Declared) (fork : List ℕ) (first mid : Option (List Access)) → q ≡ p
      → Knows (types_read a) known old first → Forks a.source.now known fork first mid
      → IsUnplaced a.into fork mid new message → IsUnassembled a p q old new message
  Unwritten : (known : List Declared) (fork out : List ℕ) (first mid last : Option (List Access))
      → Knows (types_read a) known old first → Forks a.source.now known fork first mid → Places a.into fork out mid last
      → IsUndelivered (NewFile a.out) out p q last new message → IsUnassembled a p q old new message
