use Rattle.std.specs.Prelude.{ℕ, ◌+◌, ◌-◌, ◌≤◌, ◌==◌, Bool, length, Option, Some, None, Result, Ok, Err, List, [], ◌∷◌, ◌++◌}
use Rattle.std.specs.Prelude.{map, codes, decimal, if◌then◌else◌}
use Rattle.std.specs.List.{flat_map}
use Rattle.std.specs.Str.{encode_utf8_all}
use Rattle.res_calls.specs.Files.{File}
use Rattle.desk.specs.Outcome.{Launched, AppResult, Outcome}
use Rattle.fork_commands.specs.Packaging.{packed}
use Rattle.fork_commands.specs.declared.fault.FileFault.{FileFault}
use Rattle.fork_commands.specs.declared.packaging.Packaging.TheVariants.{AsRead}
use Rattle.job_tasks.specs.declared.outputs.Owner.{Owner}
use Rattle.job_tasks.specs.Gathering.{GivenSource, source_given}
use Rattle.job_tasks.specs.declared.paths.TheConstants.{LONGEST_NAME}

-- The files that a run leaves in a folder.

-- The paths of the files: the folder's path as it was given, a slash, and a name. The name of an application has only
-- letters, digits and `_`, which are written as they are.
-- See decision 163 (the path of a file is its folder's path, one `/`, and its name).
abbrev pub app_within : List ℕ → List ℕ → List ℕ
app_within folder name = folder ++ codes "/app-" ++ encode_utf8_all name

abbrev pub log_within : List ℕ → List ℕ → List ℕ
log_within folder name = app_within folder name ++ codes ".log"

abbrev pub fork_within : List ℕ → List ℕ → ℕ → List ℕ
fork_within folder name k = app_within folder name ++ codes "-" ++ decimal k ++ codes ".rsrc"

abbrev pub desk_within : List ℕ → List ℕ
desk_within folder = folder ++ codes "/desk.log"

-- A text of this capacity has room for the path of each file that a run can leave in the folder.
abbrev pub HasRoom : List ℕ → ℕ → Type 0
HasRoom folder capacity = length folder + LONGEST_NAME ≤ capacity

-- A file: its path and its bytes.
pub record Written : Type 0 where
  pub path : List ℕ
  pub bytes : List ℕ

-- The log of an application that was launched: its transcript.
abbrev pub log_left : List ℕ → AppResult → List Written
log_left folder t = of_launched t.launched
  where
    of_launched : Option Launched → List Written
    of_launched None = []
    of_launched (Some l) = record { path = log_within folder t.name; bytes = l.transcript } ∷ []

-- The file in which the fork of the `n`-th application's `k`-th file was read, unless it was read alone: its lines are in
-- the order of its files.
abbrev pub source_at : ℕ → List GivenSource → ℕ → Option (List ℕ)
source_at n [] k = None
source_at n (s ∷ sources) k =
    if s.app == n then (if k == 0 then s.file else source_at n sources (k - 1)) else source_at n sources k

-- A file with a fork in the place of its own; or the fork alone, where it doesn't fit the file.
abbrev pub file_or : List ℕ → Result (List ℕ) FileFault → List ℕ
file_or fork (Ok file) = file
file_or fork (Err fault) = fork

-- A fork as it is written: in the file in which it was read, with all else that the file holds; or alone, where it was read
-- alone.
-- See decision 203 (a fork is written in the wrapper of its file).
abbrev pub kept : Option (List ℕ) → List ℕ → List ℕ
kept None fork = fork
kept (Some file) fork = file_or fork (packed AsRead file fork)

-- The forks that were written of an application's files, from its `k`-th file on; `source` is where each was read.
abbrev pub forks_within : List ℕ → List ℕ → (ℕ → Option (List ℕ)) → ℕ → List File → List Written
forks_within folder name source k [] = []
forks_within folder name source k (f ∷ files) =
    (if f.written then record { path = fork_within folder name k; bytes = kept (source k) f.fork } ∷ [] else [])
    ++ forks_within folder name source (k + 1) files

-- The forks that were written of an application that was launched.
abbrev pub forks_left : List ℕ → (ℕ → Option (List ℕ)) → AppResult → List Written
forks_left folder source t = of_launched t.launched
  where
    of_launched : Option Launched → List Written
    of_launched None = []
    of_launched (Some l) = forks_within folder t.name source 0 l.files

-- Where the forks of an application were read.
abbrev pub owner_source : Owner → ℕ → Option (List ℕ)
owner_source owner = source_at owner.place (map source_given owner.sources.now)

-- The forks that were written of the applications, from the `n`-th on.
abbrev pub all_forks_left : List ℕ → List GivenSource → ℕ → List AppResult → List Written
all_forks_left folder sources n [] = []
all_forks_left folder sources n (t ∷ apps) =
    forks_left folder (source_at n sources) t ++ all_forks_left folder sources (n + 1) apps

-- The files that forks are put into: none where the forks are to be written alone.
abbrev pub sources_unless : Bool → List GivenSource → List GivenSource
sources_unless alone sources = if alone then [] else sources

-- The files that a run leaves, in order: the desk's log, the logs of the applications, and their forks. Those of a run that
-- stopped are written alone, since the host has no memory to put them into files.
-- See decision 162 (the files of a run are written in a fixed order).
abbrev pub logs_left : List ℕ → List AppResult → List Written
logs_left folder apps = flat_map (log_left folder) apps

abbrev pub left_by : List ℕ → List GivenSource → Outcome → List Written
left_by folder sources o = record { path = desk_within folder; bytes = o.log }
    ∷ logs_left folder o.apps ++ all_forks_left folder (sources_unless o.stopped sources) 0 o.apps
