use Rattle.std.specs.Prelude.{◌≡◌, ℕ, Option, Some, None, List, [], ◌∷◌, map, bytes_eq, if◌then◌else◌}
use Rattle.std.specs.List.{list_any}
use Rattle.desk.specs.declared.job.App.{App}
use Rattle.desk.specs.declared.job.Job.{Job}
use Rattle.job_tasks.specs.declared.sizing.AskedSize.{AskedSize}
use Rattle.fork_tasks.specs.Fault.{Message, HostMemory, NotLaunched}
use Rattle.job_tasks.specs.Gathering.{name_of}

-- The sizes of partitions that words ask for, of applications by their names.

-- The size that is asked for an application of this name: the first for the name, or else the one that it has.
abbrev pub size_asked : List ℕ → Option ℕ → List AskedSize → Option ℕ
size_asked name own [] = own
size_asked name own (s ∷ sizes) = if bytes_eq s.name.now name then Some s.bytes else size_asked name own sizes

abbrev pub sized : List AskedSize → App → App
sized sizes app = record app { size = size_asked (name_of app) app.size sizes }

-- The first name with a size that is none of these names.
abbrev pub unnamed_in : List (List ℕ) → List AskedSize → Option (List ℕ)
unnamed_in names [] = None
unnamed_in names (s ∷ sizes) = if list_any (bytes_eq s.name.now) names then unnamed_in names sizes else Some s.name.now

abbrev pub unnamed : Job → List AskedSize → Option (List ℕ)
unnamed job sizes = unnamed_in (map name_of job.apps.items) sizes

-- A job with these sizes, each of an application of the job; all else is as it was read.
pub record IsSized (sizes : List AskedSize) (read : Job) (job : Job) : Type 0 where
  pub named : unnamed read sizes ≡ None
  pub apps : job.apps.items ≡ map (sized sizes) read.apps.items
  pub memory : job.memory ≡ read.memory
  pub system : job.system ≡ read.system
  pub events : job.events ≡ read.events

-- The fault is that no application of the job has the name of one of the sizes.
abbrev pub IsUnnamed : List ℕ → List AskedSize → Job → Message → Type 0
IsUnnamed path sizes job HostMemory = Unit {0}
IsUnnamed path sizes job (NotLaunched named app) = (named ≡ path) × (unnamed job sizes ≡ Some app)
IsUnnamed path sizes job message = ⊥
