use Rattle.std.specs.Prelude.{◌≡◌, ◌⊎◌, ℕ, nat_lt, false, Option, Some, None, option_map, Ok, List, [], ◌∷◌, map}
use Rattle.std.specs.Prelude.{slice_get, bytes_eq, if◌then◌else◌}
use Rattle.std.specs.List.{position_from}
use Rattle.script_text.specs.Script.{ScriptParts}
use Rattle.res_calls.specs.Files.{Resources}
use Rattle.desk.specs.declared.job.App.{App}
use Rattle.desk.specs.declared.job.Job.{Job}
use Rattle.desk.specs.Outcome.{Launched, AppResult, Outcome}
use Rattle.desk.specs.Whole.{system_of, start_with, LeftByRun}
use Rattle.zone_replay.specs.Behind.{zone_behind, steps_at}
use Rattle.fork_tasks.specs.declared.delivering.Target.TheVariants.{Printed}
use Rattle.job_tasks.specs.declared.job_zones.JobZone.{JobZone}
use Rattle.fork_tasks.specs.Accesses.{Access, Read, and_then, IsUnread, Stops}
use Rattle.fork_tasks.specs.Delivering.{Delivers, IsUndelivered}
use Rattle.fork_tasks.specs.Fault.{Message, HostMemory, NotLaunched}
use Rattle.job_tasks.specs.Gathering.{name_of, nothing_given, with_inputs, system_path, IsStop}
use Rattle.job_tasks.specs.Running.{Stated, Taken, reads_for, IsJobFault, IsRunFault}

-- The zone of an application of a job.

-- The number of the first application of a name, among a job's applications.
abbrev pub number_of : List ℕ → List App → Option ℕ
number_of name apps = position_from (bytes_eq name) 0 (map name_of apps)

-- What the application of a number leaves, if it was launched.
abbrev pub launched_of : Option AppResult → Option Launched
launched_of None = None
launched_of (Some t) = t.launched

abbrev pub launched_at : ℕ → List AppResult → Option Launched
launched_at i outcomes = launched_of (slice_get outcomes i)

-- The number of the first application of a name, and what it leaves, if it was launched.
abbrev pub launched_with : Option ℕ → List AppResult → Option (ℕ × Launched)
launched_with None outcomes = None
launched_with (Some i) outcomes = option_map (λ (l : Launched). (i, l)) (launched_at i outcomes)

abbrev pub launched_as : List ℕ → List App → List AppResult → Option (ℕ × Launched)
launched_as name apps outcomes = launched_with (number_of name apps) outcomes

-- How many steps of an application's script are shown: those up to a line, but no more than it took.
abbrev pub steps_shown : Option ℕ → ScriptParts → ℕ → ℕ
steps_shown line script taken =
    if nat_lt (steps_at line script.steps) taken then steps_at line script.steps else taken

-- The zone of an application that was launched: that which its script leaves after those steps in a partition of the
-- same size, with the resources with which it was launched.
abbrev pub IsShown : JobZone → Job → App → Launched → List ℕ → Type 0
IsShown asked job app l out = (resources : Resources) × (start_with (system_of job) app ≡ Ok resources)
    × (out ≡ zone_behind asked.form resources l.size app.script (steps_shown asked.line app.script l.steps))

-- The zone of the application of that name, by what a run leaves.
pub record IsZoneLeft (asked : JobZone) (job : Job) (outcome : Outcome) (out : List ℕ) : Type 0 where
  pub number : ℕ
  pub app : App
  pub launched : Launched
  pub named : launched_as asked.app.now job.apps.items outcome.apps ≡ Some (number, launched)
  pub there : slice_get job.apps.items number ≡ Some app
  pub shown : IsShown asked job app launched out

-- The zone of a request for a job: by what a run leaves that did not stop.
abbrev pub IsJobZone : JobZone → Job → List ℕ → Type 0
IsJobZone asked job out =
    (outcome : Outcome) × (outcome.stopped ≡ false) × LeftByRun job outcome × IsZoneLeft asked job outcome out

-- The fault is that no application of that name was launched, unless the host is out of memory.
abbrev pub IsNotLaunched : JobZone → Job → Outcome → Message → Type 0
IsNotLaunched asked job outcome HostMemory = Unit {0}
IsNotLaunched asked job outcome (NotLaunched path app) = (path ≡ asked.job.now) × (app ≡ asked.app.now)
    × (launched_as asked.app.now job.apps.items outcome.apps ≡ None)
IsNotLaunched asked job outcome message = ⊥

-- Why there is no such zone: the run did not begin, since the fork of the System file, which was read at this path, is
-- no fork; or no application of that name was launched.
abbrev pub IsZoneFault : List ℕ → JobZone → Job → Message → Type 0
IsZoneFault system asked job message = IsRunFault system job message
    ⊎ ((outcome : Outcome) × (outcome.stopped ≡ false) × LeftByRun job outcome × IsNotLaunched asked job outcome message)

-- The job and all that its lines name were read, and this is the zone.
abbrev pub Sees : JobZone → List ℕ → Option (List Access) → Option (List Access) → Type 0
Sees asked out old new =
    (t : Taken) × IsJobZone asked t.job out × (new ≡ and_then old (reads_for asked.job.now t.stated t.texts))

-- Why there is no zone to print, and what was read before.
pub data IsUnseen (asked : JobZone) (old new : Option (List Access)) (message : Message) : Type 0 where
  -- the job can't be read
  Unread : IsUnread asked.job.now old new message → IsUnseen asked old new message
  -- its text is faulty
  Misstated : (text : List ℕ) → new ≡ and_then old (Read asked.job.now text ∷ [])
      → IsJobFault asked.job.now text message → IsUnseen asked old new message
  -- a file that a line names can't be read, or the text of a script is faulty
  Ungathered : (stated : Stated) (texts : List (List (List ℕ)))
      → Stops (and_then old (reads_for asked.job.now stated texts)) new message
      → IsStop (with_inputs nothing_given stated.lines.inputs texts) message → IsUnseen asked old new message
  -- all input was read, and there is no such zone
  NotThere : (t : Taken) → new ≡ and_then old (reads_for asked.job.now t.stated t.texts)
      → IsZoneFault (system_path t.stated.lines.inputs) asked t.job message → IsUnseen asked old new message

-- `p` and `q` are the bytes that have been printed before and after, `old` and `new` the accesses to files.

-- All input was read, then the zone was printed, and no other file was read or written.
abbrev pub Shows : JobZone → Option (List ℕ) → Option (List ℕ) → Option (List Access) → Option (List Access) → Type 0
Shows asked p q old new = (out : List ℕ) × (mid : Option (List Access)) × Sees asked out old mid
    × Delivers Printed out p q mid new

-- There is no zone to print, or it was not printed to its end.
pub data IsUnshown (asked : JobZone) (p q : Option (List ℕ)) (old new : Option (List Access)) (message : Message)
    : Type 0 where
  Unseen : q ≡ p → IsUnseen asked old new message → IsUnshown asked p q old new message
  Unprinted : (out : List ℕ) (mid : Option (List Access)) → Sees asked out old mid
      → IsUndelivered Printed out p q mid new message → IsUnshown asked p q old new message
