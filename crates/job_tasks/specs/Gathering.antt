use Rattle.std.specs.Prelude.{◌≡◌, ℕ, zero, suc, nat_lt, Bool, true, Option, Some, None, option_map, Result, Ok, Err}
use Rattle.std.specs.Prelude.{List, [], ◌∷◌, ◌++◌, length, map, drop, if◌then◌else◌}
use Rattle.script_text.specs.declared.fault.FaultKind.{FaultKind}
use Rattle.script_text.specs.Job.{Input, System, App as AppLine, File}
use Rattle.script_text.specs.Script.{Spelled, script_of, spelled}
use Rattle.fork_commands.specs.declared.fault.FileFault.{FileFault}
use Rattle.fork_commands.specs.Reading.{fork_in}
use Rattle.fork_format.specs.Fork.{is_fork}
use Rattle.desk.specs.declared.job.App.{App}
use Rattle.desk.specs.declared.job.AppFile.{AppFile}
use Rattle.desk.specs.declared.job.Job.{Job}
use Rattle.fork_tasks.specs.declared.fault.ToolFault.{ToolFault}
use Rattle.job_tasks.specs.declared.gathering.FoundApp.{FoundApp}
use Rattle.job_tasks.specs.declared.gathering.FoundFile.{FoundFile}
use Rattle.job_tasks.specs.declared.gathering.FoundFork.{FoundFork}
use Rattle.job_tasks.specs.declared.gathering.FoundScript.{FoundScript}
use Rattle.job_tasks.specs.declared.gathering.Gathered.{Gathered}
use Rattle.job_tasks.specs.declared.gathering.Source.{Source}
use Rattle.fork_tasks.specs.Fault.{Message, CannotRead, Script, Fork, HostMemory, message_of}
use Rattle.fork_tasks.specs.Accesses.{Access, and_then, reads_at, Ends}

-- What the lines of a job name.

-- The name of an application.
abbrev pub name_of : App → List ℕ
name_of app = app.name.0.items

-- Reports whether the application of a file is one of the first `n` applications.
abbrev pub owner_is_in : ℕ → Input → Bool
owner_is_in n (System path) = true
owner_is_in n (AppLine name fork script) = true
owner_is_in n (File app name path) = nat_lt app n

-- The path of the System file: that of the first such line, or an empty path if there is no such line.
abbrev pub system_path : List Input → List ℕ
system_path [] = []
system_path (System path ∷ inputs) = path
system_path (AppLine name fork script ∷ inputs) = system_path inputs
system_path (File app name path ∷ inputs) = system_path inputs

-- What the lines of a job give, with the bytes that were read at their paths.

-- A file of an application: its name and its fork.
pub record GivenFile : Type 0 where
  pub name : List ℕ
  pub fork : List ℕ

-- An application: its name, its fork, its other files in the order of their lines, the size of its partition where one is asked
-- for, and its script.
pub record GivenApp : Type 0 where
  pub name : List ℕ
  pub fork : List ℕ
  pub files : List GivenFile
  pub size : Option ℕ
  pub script : Spelled

-- The source of a fork: the bytes of the file in which it was read, unless they are a fork themselves.
abbrev pub source_of : List ℕ → Option (List ℕ)
source_of bytes = if is_fork bytes then None else Some bytes

-- The source of a fork of an application, with the application's place.
pub record GivenSource : Type 0 where
  pub app : ℕ
  pub file : Option (List ℕ)

-- The System file's fork, if a line names it; the applications in the order of their lines; the texts of their scripts; and the
-- sources of their forks, an application's own and those of its other files, in the order of all these lines.
pub record Given : Type 0 where
  pub system : Option (List ℕ)
  pub apps : List GivenApp
  pub scripts : List (List ℕ)
  pub sources : List GivenSource

-- What is given before the first line.
abbrev pub nothing_given : Given
nothing_given = record { system = None; apps = []; scripts = []; sources = [] }

-- A further file of the `n`-th application, from 0.
abbrev pub with_file : ℕ → GivenFile → List GivenApp → List GivenApp
with_file n file [] = []
with_file zero file (app ∷ apps) = record app { files = app.files ++ file ∷ [] } ∷ apps
with_file (suc n) file (app ∷ apps) = app ∷ with_file n file apps

-- What follows something that was given; a fault stays.
abbrev pub given_then : {A B : Type 0} → Result A Message → (A → Result B Message) → Result B Message
given_then (Ok given) next = next given
given_then (Err fault) next = Err fault

-- What was found with the source of its fork.
abbrev pub Found : Type 0 → Type 0
Found A = A × Option (List ℕ)

-- A fork that was found in a file, or how the file's wrapper is damaged.
abbrev pub fork_told : List ℕ → List ℕ → Result (List ℕ) FileFault → Result (Found (List ℕ)) Message
fork_told path bytes (Ok fork) = Ok (fork, source_of bytes)
fork_told path bytes (Err fault) = Err (Fork path fault)

-- The first of these texts is a file with a fork. Without a text the path can't be read.
abbrev pub fork_at : List ℕ → List (List ℕ) → Result (Found (List ℕ)) Message
fork_at path [] = Err (CannotRead path)
fork_at path (bytes ∷ texts) = fork_told path bytes (fork_in bytes)

-- A script with its text.
abbrev pub Spoken : Type 0
Spoken = Spelled × List ℕ

-- A script that was read, or its first faulty line.
abbrev pub script_told : List ℕ → List ℕ → Result Spelled (ℕ × FaultKind) → Result Spoken Message
script_told path text (Ok script) = Ok (script, text)
script_told path text (Err (line, kind)) = Err (Script path line kind)

-- The first of these texts is a script. Without a text the path can't be read.
abbrev pub script_at : List ℕ → List (List ℕ) → Result Spoken Message
script_at path [] = Err (CannotRead path)
script_at path (text ∷ texts) = script_told path text (script_of text)

-- An application with the source of its fork and the text of its script.
abbrev pub FoundApplication : Type 0
FoundApplication = Found GivenApp × List ℕ

-- An application, with its fork and its script.
abbrev pub app_of : List ℕ → Result (Found (List ℕ)) Message → Result Spoken Message → Result FoundApplication Message
app_of name fork script =
    given_then fork (λ found. given_then script (λ read.
    Ok ((record { name = name; fork = found.0; files = []; size = None; script = read.0 }, found.1), read.1)))

-- An application, from the texts at the paths of its fork and its script.
abbrev pub app_at : List ℕ → List ℕ → List ℕ → List (List ℕ) → Result FoundApplication Message
app_at name fork script texts = app_of name (fork_at fork texts) (script_at script (drop 1 texts))

-- A file of an application, from the text at its path.
abbrev pub file_at : List ℕ → List ℕ → List (List ℕ) → Result (Found GivenFile) Message
file_at name path texts =
    given_then (fork_at path texts) (λ found. Ok (record { name = name; fork = found.0 }, found.1))

-- A further source of a fork of the `n`-th application.
abbrev pub with_source : ℕ → Option (List ℕ) → List GivenSource → List GivenSource
with_source n file sources = sources ++ record { app = n; file = file } ∷ []

-- What is given with the System file's fork, with a further application, and with a further file of the `n`-th application.
abbrev pub with_system : Found (List ℕ) → Given → Given
with_system found given = record given { system = Some found.0 }

abbrev pub with_app : FoundApplication → Given → Given
with_app found given = record given {
  apps = given.apps ++ found.0.0 ∷ [];
  scripts = given.scripts ++ found.1 ∷ [];
  sources = with_source (length given.apps) found.0.1 given.sources;
}

abbrev pub with_app_file : ℕ → Found GivenFile → Given → Given
with_app_file n found given = record given {
  apps = with_file n found.0 given.apps;
  sources = with_source n found.1 given.sources;
}

-- What a line adds, with the texts at its paths, or its first path that can't be read, or its script's fault.
abbrev pub with_input : Given → Input → List (List ℕ) → Result Given Message
with_input given (System path) texts =
    given_then (fork_at path texts) (λ found. Ok (with_system found given))
with_input given (AppLine name fork script) texts =
    given_then (app_at name fork script texts) (λ found. Ok (with_app found given))
with_input given (File app name path) texts =
    given_then (file_at name path texts) (λ found. Ok (with_app_file app found given))

-- What the lines add, each with the texts at its paths, or what stops them.
abbrev pub with_inputs : Given → List Input → List (List (List ℕ)) → Result Given Message
with_inputs given [] texts = Ok given
with_inputs given (i ∷ inputs) [] = with_input given i []
with_inputs given (i ∷ inputs) (t ∷ texts) = given_then (with_input given i t) (λ next. with_inputs next inputs texts)

-- The paths of a line, in the order in which they are read.
abbrev pub paths_of : Input → List (List ℕ)
paths_of (System path) = path ∷ []
paths_of (AppLine name fork script) = fork ∷ script ∷ []
paths_of (File app name path) = path ∷ []

-- The files that are read for the lines, each line with the texts at its paths.
abbrev pub reads_of : List Input → List (List (List ℕ)) → List Access
reads_of inputs [] = []
reads_of [] (t ∷ texts) = []
reads_of (i ∷ inputs) (t ∷ texts) = reads_at (paths_of i) t ++ reads_of inputs texts

-- Files were read at these paths, in order, and no others, up to the first that the host refused; `P` holds of their
-- texts.
abbrev pub Reads : {X : Type 0} → List (List ℕ) → Option (List Access) → Option (List Access) → Result X ToolFault
    → (List (List ℕ) → Type 0) → Type 0
Reads paths old new result P = (texts : List (List ℕ)) × Ends (and_then old (reads_at paths texts)) new result × P texts

-- Files were read at the paths of these lines, in order, and no others, up to the first that the host refused; `P` holds
-- of their texts.
abbrev pub ReadsOf : {X : Type 0} → List Input → Option (List Access) → Option (List Access) → Result X ToolFault
    → (List (List (List ℕ)) → Type 0) → Type 0
ReadsOf inputs old new result P =
    (texts : List (List (List ℕ))) × Ends (and_then old (reads_of inputs texts)) new result × P texts

-- The result of a function, seen by `view`, is what is given, or what stops it, unless the host is out of memory.
abbrev pub IsStop : {Y : Type 0} → Result Y Message → Message → Type 0
IsStop given HostMemory = Unit {0}
IsStop given message = given ≡ Err message

abbrev pub IsGiven : {X Y : Type 0} → (X → Y) → Result Y Message → Result X ToolFault → Type 0
IsGiven view given (Ok x) = given ≡ Ok (view x)
IsGiven view given (Err fault) = IsStop given (message_of fault)

-- The values of the code, as the definitions see them.

abbrev pub file_given : AppFile → GivenFile
file_given file = record { name = file.name.0.items; fork = file.fork.items }

abbrev pub app_given : App → GivenApp
app_given app = record {
  name = app.name.0.items;
  fork = app.fork.items;
  files = map file_given app.files.items;
  size = app.size;
  script = spelled app.script;
}

abbrev pub fork_found : FoundFork → Found (List ℕ)
fork_found f = (f.fork.items, option_map (λ bytes. bytes.items) f.source)

abbrev pub script_found : FoundScript → Spoken
script_found f = (spelled f.script, f.text.items)

abbrev pub app_found : FoundApp → FoundApplication
app_found f = ((app_given f.app, option_map (λ bytes. bytes.items) f.source), f.text.items)

abbrev pub file_found : FoundFile → Found GivenFile
file_found f = (file_given f.file, option_map (λ bytes. bytes.items) f.source)

abbrev pub source_given : Source → GivenSource
source_given s = record { app = s.app; file = option_map (λ bytes. bytes.items) s.file }

abbrev pub gathered : Gathered → Given
gathered g = record {
  system = option_map (λ fork. fork.items) g.system;
  apps = map app_given g.apps.items;
  scripts = map (λ text. text.items) g.scripts.items;
  sources = map source_given g.sources.items;
}

abbrev pub job_given : Job → List (List ℕ) → List GivenSource → Given
job_given job scripts sources = record {
  system = option_map (λ fork. fork.items) job.system;
  apps = map app_given job.apps.items;
  scripts = scripts;
  sources = sources;
}
