use Rattle.std.specs.Prelude.{◌≡◌, ℕ, Bool, true, false, not, ◌&&◌, ◌||◌, ◌==◌, Option, Some, None, Result, Ok, Err, List, [], ◌∷◌, ◌++◌}
use Rattle.std.specs.Prelude.{map, length, codes, decimal, if◌then◌else◌}
use Rattle.std.specs.List.{list_all, list_any, ends_with}
use Rattle.std.specs.Io.KnownBytes.{append_known}
use Rattle.lint.specs.Faults.{script_faults, job_faults}
use Rattle.rez_statements.specs.Types.{Declared}
use Rattle.rez_text.specs.Reading.{ReadFault, Wrong, Lacking, read}
use Rattle.fork_tasks.specs.declared.ending.Ending.{Ending}
use Rattle.fork_tasks.specs.declared.delivering.Target.TheVariants.{Printed}
use Rattle.fork_tasks.specs.declared.linting.Linting.{Linting}
use Rattle.fork_tasks.specs.declared.linting.TextKind.{TextKind}
use Rattle.fork_tasks.specs.declared.linting.TextKind.TheVariants.{Script, Job, Source}
use Rattle.fork_tasks.specs.Declaring.{Knows, IsUnknown}
use Rattle.fork_tasks.specs.Accesses.{Access, Read, Failed, and_then}
use Rattle.fork_tasks.specs.Delivering.{IsUndelivered}
use Rattle.fork_tasks.specs.Ending.{ending_of}
use Rattle.fork_tasks.specs.Fault.{Message, HostMemory}
use Rattle.fork_tasks.specs.Surveying.{AreSeen, OnlyReads}

-- Files of declarations are read, then texts: scripts, jobs and sources of Rez; and a line is printed for each of the texts' faulty
-- lines. `p` and `q` are the bytes that have been printed before
-- and after, `old` and `new` the accesses to files.

-- The line of a faulty line: the path of the text, the number of the line, and words, of which no more is said.
abbrev pub line_of : List ℕ → ℕ → List ℕ → List ℕ
line_of path n words = path ++ codes ":" ++ decimal n ++ codes ":" ++ words ++ codes "\n"

-- The lines of the faulty lines of these numbers, one for each, in their order.
abbrev pub AreLines : List ℕ → List ℕ → List ℕ → Type 0
AreLines path [] text = text ≡ []
AreLines path (n ∷ more) text =
    (words : List ℕ) × (rest : List ℕ) × (text ≡ line_of path n words ++ rest) × AreLines path more rest

-- The numbers of the faulty lines of a script, and of a job.
abbrev pub script_lines : List ℕ → List ℕ
script_lines text = map (λ fault. fault.0) (script_faults text)

abbrev pub job_lines : List ℕ → List ℕ
job_lines text = map (λ fault. fault.0) (job_faults text)

-- The number of the line where a source can't go on, if there is one. A source that lacks files alone has none.
abbrev pub stopped_at : {A : Type 0} → Result A ReadFault → List ℕ
stopped_at (Ok content) = []
stopped_at (Err (Wrong line kind)) = line ∷ []
stopped_at (Err (Lacking names)) = []

-- That of a source before which these types are declared. The files that it names are not read.
abbrev pub source_lines : List Declared → List ℕ → List ℕ
source_lines known text = stopped_at (read known [] text)

-- The numbers of the faulty lines of a text, by what it is read as.
abbrev pub faulty_lines : List Declared → TextKind → List ℕ → List ℕ
faulty_lines known Script text = script_lines text
faulty_lines known Job text = job_lines text
faulty_lines known Source text = source_lines known text

-- A path ends so.
abbrev pub has_end : List ℕ → List ℕ → Bool
has_end end path = ends_with (λ a b. a == b) path end

-- What a file is read as: what was asked for; or else what the end of its path says.
abbrev pub kind_at : Option TextKind → List ℕ → TextKind
kind_at (Some kind) path = kind
kind_at None path =
    if has_end (codes ".job") path then Job else if has_end (codes ".r") path then Source else Script

-- The numbers of the faulty lines of a file, by its path and its bytes.
abbrev pub LinesOf : Type 0
LinesOf = List ℕ → List ℕ → List ℕ

abbrev pub lines_by : Option TextKind → List Declared → LinesOf
lines_by asked known path bytes = faulty_lines known (kind_at asked path) bytes

-- What is printed of a file: the lines of its faulty lines; or that it can't be read.
abbrev pub IsLinted : LinesOf → Access → List ℕ → Type 0
IsLinted faulty (Read path bytes) text = AreLines path (faulty path bytes) text
IsLinted faulty (Failed path) text = text ≡ path ++ codes ": cannot read\n"
IsLinted faulty access text = text ≡ []

-- What is printed of files, one after another.
abbrev pub AreLinted : LinesOf → List Access → List ℕ → Type 0
AreLinted faulty [] text = text ≡ []
AreLinted faulty (access ∷ more) text =
    (first : List ℕ) × (rest : List ℕ) × (text ≡ first ++ rest) × IsLinted faulty access first × AreLinted faulty more rest

-- A file was read, and has no faulty line.
abbrev pub is_clean : LinesOf → Access → Bool
is_clean faulty (Read path bytes) = length (faulty path bytes) == 0
is_clean faulty (Failed path) = false
is_clean faulty access = true

-- Something was appended to a text.
abbrev pub Adds : (List ℕ → Type 0) → List ℕ → List ℕ → Type 0
Adds Is text more = (added : List ℕ) × (more ≡ text ++ added) × Is added

-- Accesses were made; what is printed of them was appended to a text, and it is known whether each file so far has no faulty line.
pub record HasLinted
    (faulty : LinesOf) (accesses : List Access) (old new : Option (List Access)) (text more : List ℕ) (was is : Bool)
    : Type 0 where
  pub made : new ≡ and_then old accesses
  pub lines : Adds (AreLinted faulty accesses) text more
  pub clean : is ≡ (was && list_all (is_clean faulty) accesses)

-- The files at these paths were read, and their lines were printed; the ending says whether each was read and has no faulty line.
abbrev pub PrintsLines : LinesOf → List (List ℕ) → Ending → Option (List ℕ) → Option (List ℕ)
    → Option (List Access) → Option (List Access) → Type 0
PrintsLines faulty paths ending p q old new =
    (accesses : List Access) × (text : List ℕ) × AreSeen paths accesses × AreLinted faulty accesses text
    × (new ≡ and_then old accesses) × (q ≡ append_known p text)
    × (ending ≡ ending_of (not (list_all (is_clean faulty) accesses)))

-- The host was out of memory before all files were read, and nothing was printed or written; or the lines were not printed to
-- their end.
pub data LeavesLines
    (faulty : LinesOf) (paths : List (List ℕ)) (p q : Option (List ℕ)) (old new : Option (List Access)) (message : Message)
    : Type 0 where
  Stopped : q ≡ p → OnlyReads old new → message ≡ HostMemory → LeavesLines faulty paths p q old new message
  Undelivered : (accesses : List Access) → (text : List ℕ) → AreSeen paths accesses → AreLinted faulty accesses text
      → IsUndelivered Printed text p q (and_then old accesses) new message → LeavesLines faulty paths p q old new message

-- The paths of the texts, and of the files of declarations.
abbrev pub paths_of : Linting → List (List ℕ)
paths_of l = map (λ path. path.now) l.paths.items

abbrev pub types_read : Linting → List (List ℕ)
types_read l = map (λ path. path.now) l.types.items

-- A file is read as a source.
abbrev pub is_source : TextKind → Bool
is_source Source = true
is_source kind = false

-- Types are needed: files of declarations are named, or a text is a source.
abbrev pub needs_types : Linting → Bool
needs_types l = not (length l.types.items == 0) || list_any (λ path. is_source (kind_at l.asked path.now)) l.paths.items

-- The types of the table and of the files at these paths are known, where they are needed; else none, and nothing was read.
abbrev pub KnowsIf : Bool → List (List ℕ) → List Declared → Option (List Access) → Option (List Access) → Type 0
KnowsIf true paths known old new = Knows paths known old new
KnowsIf false paths known old new = (known ≡ []) × (new ≡ old)

abbrev pub KnowsFor : Linting → List Declared → Option (List Access) → Option (List Access) → Type 0
KnowsFor l known old new = KnowsIf (needs_types l) (types_read l) known old new

-- The files of declarations were read, and then the lines of the texts were printed.
abbrev pub Lints : Linting → Ending → Option (List ℕ) → Option (List ℕ) → Option (List Access) → Option (List Access) → Type 0
Lints l ending p q old new = (known : List Declared) × (mid : Option (List Access)) × KnowsFor l known old mid
    × PrintsLines (lines_by l.asked known) (paths_of l) ending p q mid new

-- The types of a file were not declared, and nothing was printed; or the lines were not printed, or not to their end.
pub data IsUnlinted (l : Linting) (p q : Option (List ℕ)) (old new : Option (List Access)) (message : Message) : Type 0 where
  Unknown : q ≡ p → IsUnknown (types_read l) old new message → IsUnlinted l p q old new message
  Unprinted : (known : List Declared) → (mid : Option (List Access)) → KnowsFor l known old mid
      → LeavesLines (lines_by l.asked known) (paths_of l) p q mid new message → IsUnlinted l p q old new message
