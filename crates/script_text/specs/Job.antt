use Rattle.std.specs.Prelude.{◌≡◌, ℕ, ◌+◌, ◌%◌, ◌==◌, nat_le, nat_lt, Bool, true, false, ◌&&◌, not, Option, Some, None, is_some}
use Rattle.std.specs.Prelude.{Result, Ok, Err, List, [], ◌∷◌, ◌++◌, map, length, take, drop, bytes_eq, if◌then◌else◌}
use Rattle.std.specs.List.{list_any, filter_map, position_from}
use Rattle.std.specs.Option.{ok_or, is_none}
use Rattle.std.specs.Str.Lines.{lines}
use Rattle.memory_windows.specs.declared.list.TheConstants.{GREATEST_MEMORY}
use Rattle.script_text.specs.declared.fault.FaultKind.{FaultKind}
use Rattle.script_text.specs.declared.fault.FaultKind.TheVariants.{BadArgument}
use Rattle.script_text.specs.declared.job.Event.{Event}
use Rattle.script_text.specs.declared.job.Event.TheVariants as event
use Rattle.script_text.specs.declared.job.Input as declared
use Rattle.script_text.specs.declared.job.Input.TheVariants as input
use Rattle.script_text.specs.declared.job.JobText.{JobText}
use Rattle.script_text.specs.declared.job_lines.Refusal.{Refusal}
use Rattle.script_text.specs.declared.job_lines.Refusal.TheVariants as refusals
use Rattle.script_text.specs.Reading.{◌>>=◌}
use Rattle.script_text.specs.Script.{at_line}
use Rattle.script_text.specs.Stating as said
use Rattle.script_text.specs.Stating.{Stated, job_line}

-- Jobs.

-- What a job takes from outside: the System file's fork, an application by name with its fork and its script, or a
-- file of the n-th application by name, each at a path.
-- See decision 121 (the inputs of a job are one list, in the order of their lines).
pub data Input : Type 0 where
  System : (path : List ℕ) → Input
  App : (name : List ℕ) → (fork : List ℕ) → (script : List ℕ) → Input
  File : (app : ℕ) → (name : List ℕ) → (path : List ℕ) → Input

-- A whole job: its memory, its inputs in the order of their lines, and its events.
pub record Job : Type 0 where
  pub memory : ℕ
  pub inputs : List Input
  pub events : List Event

-- Whether an input is the System file.
abbrev pub is_system : Input → Bool
is_system (System path) = true
is_system (App name fork script) = false
is_system (File app name path) = false

-- The name of an application.
abbrev pub app_name : Input → Option (List ℕ)
app_name (System path) = None
app_name (App name fork script) = Some name
app_name (File app name path) = None

-- The names of the applications: the n-th name is that of the n-th application, from 0.
abbrev pub app_names : List Input → List (List ℕ)
app_names inputs = filter_map app_name inputs

-- The number of the application of this name.
abbrev pub app_named : List ℕ → List Input → Option ℕ
app_named name inputs = position_from (bytes_eq name) 0 (app_names inputs)

-- The name of a file of the n-th application.
abbrev pub file_name : ℕ → Input → Option (List ℕ)
file_name n (System path) = None
file_name n (App name fork script) = None
file_name n (File app name path) = if app == n then Some name else None

-- The names of the files that lines give to the n-th application.
abbrev pub given_names : ℕ → List Input → List (List ℕ)
given_names n inputs = filter_map (file_name n) inputs

-- The names of all files of the n-th application: its fork, which has the application's name, and those that lines
-- give to it.
-- See decision 122 (the files of an application are told apart byte by byte).
abbrev pub file_names : ℕ → List Input → List (List ℕ)
file_names n inputs = take 1 (drop n (app_names inputs)) ++ given_names n inputs

-- Whether a name is among these.
abbrev pub has_name : List ℕ → List (List ℕ) → Bool
has_name name names = list_any (bytes_eq name) names

-- Whether an input may follow those above it: at most one System file, 64 applications, and 256 files of each
-- application with its fork, all of names that are new.
abbrev pub may_follow : List Input → Input → Bool
may_follow above (System path) = not (list_any is_system above)
may_follow above (App name fork script) = nat_lt (length (app_names above)) 64 && not (has_name name (app_names above))
may_follow above (File app name path) =
    nat_lt app (length (app_names above))
    && (nat_lt (length (given_names app above)) 255 && not (has_name name (file_names app above)))

-- The least and the greatest number of bytes of a memory.
abbrev pub least_memory : ℕ
least_memory = 512

abbrev pub greatest_memory : ℕ
greatest_memory = GREATEST_MEMORY

-- Whether a job may have a memory of n bytes: 512 to 2^27, a multiple of 16.
abbrev pub is_memory : ℕ → Bool
is_memory n = nat_le least_memory n && nat_le n greatest_memory && n % 16 == 0

-- The text of a job.

-- What the lines so far have stated.
pub record Above : Type 0 where
  pub memory : Option ℕ
  pub inputs : List Input
  pub events : List Event

-- One more input: after the memory, before all events, and where it may follow the inputs above.
abbrev pub with_input : Above → Input → Result Above FaultKind
with_input above i =
    if is_some above.memory && length above.events == 0 && may_follow above.inputs i
    then Ok (record { memory = above.memory; inputs = above.inputs ++ i ∷ []; events = above.events })
    else Err BadArgument

-- One more event, after the memory.
abbrev pub with_event : Above → Event → Result Above FaultKind
with_event above e =
    if is_some above.memory
    then Ok (record { memory = above.memory; inputs = above.inputs; events = above.events ++ e ∷ [] })
    else Err BadArgument

-- The memory, which is stated once.
-- See decision 119 (the first line of a job that is not skipped is `memory`).
abbrev pub with_size : Above → ℕ → Result Above FaultKind
with_size above size =
    if is_none above.memory && is_memory size
    then Ok (record { memory = Some size; inputs = above.inputs; events = above.events })
    else Err BadArgument

-- What is stated of an application above, which is named.
abbrev pub of_app : Above → List ℕ → (ℕ → Result Above FaultKind) → Result Above FaultKind
of_app above name go_on = ok_or (app_named name above.inputs) BadArgument >>= go_on

-- What a line states, after what stands above it.
abbrev pub with_stated : Above → Stated → Result Above FaultKind
with_stated above (said.Memory size) = with_size above size
with_stated above (said.System path) = with_input above (System path)
with_stated above (said.App name fork script) = with_input above (App name fork script)
with_stated above (said.File owner name path) = of_app above owner (λ app. with_input above (File app name path))
with_stated above (said.Launch name) = of_app above name (λ app. with_event above (event.Launch app))
with_stated above (said.Acts name act) = of_app above name (λ app. with_event above (event.Act app act))
with_stated above said.Rest = with_event above event.Rest

-- One more line, if it states something.
abbrev pub with_any : Above → Option Stated → Result Above FaultKind
with_any above None = Ok above
with_any above (Some stated) = with_stated above stated

-- One more line, or its fault.
unfoldable pub with_line : Above → List ℕ → Result Above FaultKind
with_line above line = job_line line >>= with_any above

-- All lines, from the n-th on, or the first faulty one.
abbrev pub with_lines : ℕ → Above → List (List ℕ) → Result Above (ℕ × FaultKind)
with_lines n above [] = Ok above
with_lines n above (line ∷ more) = at_line n (with_line above line) (λ next. with_lines (n + 1) next more)

-- What is stated before the first line.
abbrev pub nothing : Above
nothing = record { memory = None; inputs = []; events = [] }

-- The job, where its memory is stated; a job that states none is faulty at its first line.
abbrev pub with_memory : Option ℕ → Above → Result Job (ℕ × FaultKind)
with_memory None above = Err (1, BadArgument)
with_memory (Some n) above = Ok (record { memory = n; inputs = above.inputs; events = above.events })

-- The job that the lines state, or the first faulty line.
abbrev pub after_all : Result Above (ℕ × FaultKind) → Result Job (ℕ × FaultKind)
after_all (Ok above) = with_memory above.memory above
after_all (Err fault) = Err fault

-- The job that a text states, or the number of its first faulty line and the fault. Lines and tokens are those of a
-- script.
unfoldable pub job_of : List ℕ → Result Job (ℕ × FaultKind)
job_of text = after_all (with_lines 1 nothing (lines text))

-- The values of the code, as the definitions see them.

-- The result of adding a line, seen by `view`, is that of a reading, unless the host is out of memory.
abbrev pub Adds : {X Y : Type 0} → (X → Y) → Result X Refusal → Result Y FaultKind → Type 0
Adds view (Ok x) read = read ≡ Ok (view x)
Adds view (Err refusals.HostMemory) read = Unit {0}
Adds view (Err (refusals.Misfit misfit)) read = read ≡ Err BadArgument

-- An input of the code, as an `Input` of the definitions.
abbrev pub input_seen : declared.Input → Input
input_seen (input.System path) = System path.now
input_seen (input.App name fork script) = App name.0.items fork.now script.now
input_seen (input.File app name path) = File app name.0.items path.now

-- A job of the code, as a `Job` of the definitions.
abbrev pub job_seen : JobText → Job
job_seen job = record { memory = job.memory; inputs = map input_seen job.inputs.items; events = job.events.items }
