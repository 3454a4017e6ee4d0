use Rattle.std.specs.Prelude.{◌≡◌, ◌≤◌, ◌%◌, ℕ, nat_lt, Bool, true, ◌&&◌, IsTrue, List, [], ◌∷◌, ◌++◌, length, bytes_eq}
use Rattle.std.specs.List.{list_all, IsDistinct}
use Rattle.script_text.specs.declared.job.Event.{Event}
use Rattle.script_text.specs.declared.job.Event.TheVariants as event
use Rattle.script_text.specs.Job.{Input, app_names, file_names, may_follow, least_memory, greatest_memory}

-- What holds of every job that is read.

-- A memory has 512 to 2^27 bytes, a multiple of 16.
pub record IsMemory (n : ℕ) : Type 0 where
  pub least : least_memory ≤ n
  pub most : n ≤ greatest_memory
  pub multiple : n % 16 ≡ 0

-- Whether each input may follow those above it.
abbrev pub all_follow : List Input → List Input → Bool
all_follow above [] = true
all_follow above (i ∷ more) = may_follow above i && all_follow (above ++ i ∷ []) more

-- Each input may follow those before it.
abbrev pub AreInOrder : List Input → Type 0
AreInOrder inputs = IsTrue (all_follow [] inputs)

-- Whether an event is of one of `apps` applications.
abbrev pub is_event_of : ℕ → Event → Bool
is_event_of apps (event.Launch app) = nat_lt app apps
is_event_of apps (event.Act app act) = nat_lt app apps
is_event_of apps event.Rest = true

-- The events are of the applications of the inputs.
abbrev pub AreEventsOf : List Input → List Event → Type 0
AreEventsOf inputs events = IsTrue (list_all (is_event_of (length (app_names inputs))) events)

-- There are at most 64 applications, whose names differ.
pub record AreApps (inputs : List Input) : Type 0 where
  pub most : length (app_names inputs) ≤ 64
  pub apart : IsDistinct bytes_eq (app_names inputs)

-- Each application has at most 256 files, its fork among them, whose names differ.
pub record AreFiles (inputs : List Input) : Type 0 where
  pub most : (n : ℕ) → length (file_names n inputs) ≤ 256
  pub apart : (n : ℕ) → IsDistinct bytes_eq (file_names n inputs)
