use Rattle.std.specs.Prelude.{◌≡◌, ◌⊎◌, ℕ, Bool, true, false, not, ◌&&◌, Option, Some, None, List, [], ◌∷◌, ◌++◌, map, codes}
use Rattle.std.specs.List.{flat_map, list_all}
use Rattle.std.specs.Io.KnownBytes.{append_known}
use Rattle.fork_commands.specs.States.{state_words, has_content}
use Rattle.fork_tasks.specs.declared.ending.Ending.{Ending}
use Rattle.fork_tasks.specs.declared.delivering.Target.TheVariants.{Printed}
use Rattle.fork_tasks.specs.declared.surveying.Survey.{Survey}
use Rattle.fork_tasks.specs.Accesses.{Access, Read, Listed, Folder, Write, Failed, and_then}
use Rattle.fork_tasks.specs.Delivering.{IsUndelivered}
use Rattle.fork_tasks.specs.Ending.{ending_of}
use Rattle.fork_tasks.specs.Fault.{Message, HostMemory}

-- Several files are read, and the state of each is printed in a line. `p` and `q` are the bytes that have been printed before and
-- after, `old` and `new` the accesses to files.

-- The file at a path was read, or the host refused the path.
abbrev pub IsSeen : List ℕ → Access → Type 0
IsSeen path (Read at bytes) = at ≡ path
IsSeen path (Listed at files) = ⊥
IsSeen path (Folder at) = ⊥
IsSeen path (Write at bytes) = ⊥
IsSeen path (Failed at) = at ≡ path

-- So were the files at these paths, one after another.
abbrev pub AreSeen : List (List ℕ) → List Access → Type 0
AreSeen [] seen = seen ≡ []
AreSeen (path ∷ paths) [] = ⊥
AreSeen (path ∷ paths) (access ∷ seen) = IsSeen path access × AreSeen paths seen

-- A folder was surveyed: the files below it were listed, and each of them was read or refused; or the host refused the folder.
abbrev pub IsFolderSurveyed : List ℕ → List Access → Type 0
IsFolderSurveyed path accesses = AreListed path accesses ⊎ (accesses ≡ Failed path ∷ [])
  where
    AreListed : List ℕ → List Access → Type 0
    AreListed path accesses =
        (files : List (List ℕ)) × (seen : List Access) × (accesses ≡ Listed path files ∷ seen) × AreSeen files seen

-- A path was surveyed: the file at it was, or the folder at it.
abbrev pub IsSurveyed : List ℕ → List Access → Type 0
IsSurveyed path accesses = AreSeen (path ∷ []) accesses ⊎ IsFolderSurveyed path accesses

-- So were these paths, one after another.
abbrev pub AreSurveyed : List (List ℕ) → List Access → Type 0
AreSurveyed [] accesses = accesses ≡ []
AreSurveyed (path ∷ paths) accesses =
    (first : List Access) × (rest : List Access) × (accesses ≡ first ++ rest) × IsSurveyed path first
    × AreSurveyed paths rest

-- The line of a file: its path, a tab, and its state.
abbrev pub line_of : Bool → Access → List ℕ
line_of why (Read path bytes) = path ++ codes "\t" ++ state_words why bytes ++ codes "\n"
line_of why (Listed path files) = []
line_of why (Folder path) = []
line_of why (Write path bytes) = []
line_of why (Failed path) = path ++ codes "\tcannot read\n"

-- The file that was read has a fork with a content.
abbrev pub is_good : Access → Bool
is_good (Read path bytes) = has_content bytes
is_good (Failed path) = false
is_good _ = true

-- A file was read or refused, or files were listed: nothing was written.
abbrev pub is_reading : Access → Bool
is_reading (Folder path) = false
is_reading (Write path bytes) = false
is_reading _ = true

-- Accesses were made; their lines were appended to a text, and it is known whether each file so far has a fork with a content.
pub record Went (why : Bool) (accesses : List Access) (old new : Option (List Access)) (text more : List ℕ) (was is : Bool)
    : Type 0 where
  pub made : new ≡ and_then old accesses
  pub lines : more ≡ text ++ flat_map (line_of why) accesses
  pub good : is ≡ (was && list_all is_good accesses)

-- Files were read, and nothing was written.
abbrev pub OnlyReads : Option (List Access) → Option (List Access) → Type 0
OnlyReads old new = (accesses : List Access) × (list_all is_reading accesses ≡ true) × (new ≡ and_then old accesses)

-- The paths of a survey.
abbrev pub paths_of : Survey → List (List ℕ)
paths_of s = map (λ path. path.now) s.paths.items

-- The one path that is surveyed, if there is but one and it is not asked why.
abbrev pub lone_path : Survey → Option (List ℕ)
lone_path s = lone s.why (paths_of s)
  where
    lone : Bool → List (List ℕ) → Option (List ℕ)
    lone false (path ∷ []) = Some path
    lone why paths = None

-- Accesses of a kind were made, and the lines of their files were printed; the ending says whether each file has a fork with a
-- content.
abbrev pub Lists : (List Access → Type 0) → Bool → Ending → Option (List ℕ) → Option (List ℕ)
    → Option (List Access) → Option (List Access) → Type 0
Lists Are why ending p q old new =
    (accesses : List Access) × Are accesses × (new ≡ and_then old accesses)
    × (q ≡ append_known p (flat_map (line_of why) accesses)) × (ending ≡ ending_of (not (list_all is_good accesses)))

-- The host was out of memory before all of them were made, and nothing was printed or written; or the lines were not printed to
-- their end.
pub data IsUnlisted (Are : List Access → Type 0) (why : Bool) (p q : Option (List ℕ)) (old new : Option (List Access))
    (message : Message) : Type 0 where
  Stopped : q ≡ p → OnlyReads old new → message ≡ HostMemory → IsUnlisted Are why p q old new message
  Undelivered : (accesses : List Access) → Are accesses
      → IsUndelivered Printed (flat_map (line_of why) accesses) p q (and_then old accesses) new message
      → IsUnlisted Are why p q old new message

-- All paths were surveyed, and the lines of all files were printed.
abbrev pub Surveys : Survey → Ending → Option (List ℕ) → Option (List ℕ) → Option (List Access) → Option (List Access) → Type 0
Surveys s ending p q old new = Lists (AreSurveyed (paths_of s)) s.why ending p q old new

-- They were not, or not to their end.
abbrev pub IsUnsurveyed
    : Survey → Option (List ℕ) → Option (List ℕ) → Option (List Access) → Option (List Access) → Message → Type 0
IsUnsurveyed s p q old new message = IsUnlisted (AreSurveyed (paths_of s)) s.why p q old new message
