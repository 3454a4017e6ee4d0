use Rattle.std.specs.Prelude.{ℕ, suc, Result, Ok, Err, List, [], ◌∷◌, take}
use Rattle.memory_windows.specs.Outside.{IsOutsideAll}
use Rattle.mac_words.specs.declared.code.OsErr.{OsErr}
use Rattle.fork_format.specs.Content.{Content}
use Rattle.script_text.specs.declared.job.Event.{Event}
use Rattle.desk.specs.declared.job.App.{App}
use Rattle.desk.specs.declared.job.Job.{Job}
use Rattle.desk.specs.Desk.{State, after_event}
use Rattle.desk.specs.Job.{opening}
use Rattle.desk.specs.Whole.{system_of}

-- Places of the memory that are in no partition.

-- The byte at a place is in no partition.
abbrev pub IsFree : ℕ → State → Type 0
IsFree place s = IsOutsideAll place s.windows

-- The byte at a place is in no partition before the first of the events, nor after any of them.
abbrev pub StaysFree : ℕ → List Event → State → Type 0
StaysFree place [] s = IsFree place s
StaysFree place (e ∷ events) s = IsFree place s × StaysFree place events (after_event e s)

-- The byte at a place is in no partition at any time of a run of these events, if the System file's fork can be read.
abbrev pub FreeThrough : ℕ → Result Content OsErr → ℕ → List App → List Event → Type 0
FreeThrough place (Err code) memory apps events = Unit {0}
FreeThrough place (Ok system) memory apps events = StaysFree place events (opening memory system apps)

-- The same of a run after so many completed events: before its first event, after each of those, and after the next one,
-- within which it may have stopped.
abbrev pub IsNeverGranted : ℕ → ℕ → Job → Type 0
IsNeverGranted place done job =
    FreeThrough place (system_of job) job.memory job.apps.items (take (suc done) job.events.items)
