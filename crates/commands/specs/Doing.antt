use Rattle.std.specs.Prelude.{◌≡◌, ◌⊎◌, ℕ, false, Option, Some, None, List, [], ◌∷◌}
use Rattle.fork_tasks.specs.declared.ending.Ending.{Ending}
use Rattle.fork_tasks.specs.declared.ending.Ending.TheVariants.{Done}
use Rattle.job_tasks.specs.declared.tasks.Task.{Task}
use Rattle.commands.specs.declared.request.Request.{Request}
use Rattle.commands.specs.declared.request.Request.TheVariants.{Look, Check, Lint, Run, Show, Play, Convert, Combine, Extract, Pack, Print}
use Rattle.commands.specs.declared.request.Request.TheVariants.{Assemble}
use Rattle.fork_tasks.specs.Fault.{Message, IsUsage}
use Rattle.fork_tasks.specs.Accesses.{Access, Read, and_then, IsUnread}
use Rattle.commands.specs.Asking.{IsAskedBy}
use Rattle.job_tasks.specs.declared.tasks.Work.TheVariants as work
use Rattle.fork_tasks.specs.declared.surveying.Survey.{Survey}
use Rattle.fork_tasks.specs.Surveying.{lone_path, Lists, IsFolderSurveyed, IsUnlisted, Surveys, IsUnsurveyed}
use Rattle.fork_tasks.specs.Linting.{Lints, IsUnlinted}
use Rattle.job_tasks.specs.Tasks.{Prints, IsRefusal, ending_for}
use Rattle.job_tasks.specs.Running.{Runs, IsStopped}
use Rattle.job_tasks.specs.JobZones.{Shows, IsUnshown}
use Rattle.job_tasks.specs.Playing.{Plays, IsUnplayed}
use Rattle.fork_tasks.specs.Converting.{Converts, IsUnconverted}
use Rattle.fork_tasks.specs.Combining.{Combines, IsUncombined}
use Rattle.fork_tasks.specs.Extracting.{Extracts, IsUnextracted}
use Rattle.fork_tasks.specs.Packing.{Packs, IsUnpacked}
use Rattle.fork_tasks.specs.SourcePrinting.{PrintsSource, IsSourceUnprinted}
use Rattle.fork_tasks.specs.Assembling.{Assembles, IsUnassembled}

-- A request of the command line is done. `p` and `q` are the bytes that have been printed before and after,
-- `old` and `new` the accesses to files.

-- A task was done: its file was read, and all that the task prints of the file's bytes was printed.
abbrev pub Looks
    : Task → Ending → Option (List ℕ) → Option (List ℕ) → Option (List Access) → Option (List Access) → Type 0
Looks task ending p q old new =
    (bytes : List ℕ) × (new ≡ and_then old (Read task.path.now bytes ∷ [])) × Prints task.work bytes p q
    × (ending ≡ ending_for task.work bytes)

-- A task was not done, or not to its end: its file can't be read, the bytes are faulty, or printing failed.
pub data IsUnseen (task : Task) (p q : Option (List ℕ)) (old new : Option (List Access)) (message : Message) : Type 0 where
  Unread : q ≡ p → IsUnread task.path.now old new message → IsUnseen task p q old new message
  Refused : (bytes : List ℕ)
      → IsRefusal task.work task.path.now bytes p q (and_then old (Read task.path.now bytes ∷ [])) new message
      → IsUnseen task p q old new message

-- The form of the fork in the file at a path was printed, or the lines of the folder at it, without reasons.
abbrev pub ChecksOne
    : List ℕ → Ending → Option (List ℕ) → Option (List ℕ) → Option (List Access) → Option (List Access) → Type 0
ChecksOne path ending p q old new =
    LooksAt path ending p q old new ⊎ Lists (IsFolderSurveyed path) false ending p q old new
  where
    LooksAt : List ℕ → Ending → Option (List ℕ) → Option (List ℕ) → Option (List Access) → Option (List Access) → Type 0
    LooksAt path ending p q old new =
        (task : Task) × (task.work ≡ work.Check) × (task.path.now ≡ path) × Looks task ending p q old new

-- It was not, or not to its end.
abbrev pub IsOneUnchecked
    : List ℕ → Option (List ℕ) → Option (List ℕ) → Option (List Access) → Option (List Access) → Message → Type 0
IsOneUnchecked path p q old new message =
    IsUnseenAt path p q old new message ⊎ IsUnlisted (IsFolderSurveyed path) false p q old new message
  where
    IsUnseenAt
        : List ℕ → Option (List ℕ) → Option (List ℕ) → Option (List Access) → Option (List Access) → Message → Type 0
    IsUnseenAt path p q old new message =
        (task : Task) × (task.work ≡ work.Check) × (task.path.now ≡ path) × IsUnseen task p q old new message

-- What a survey asks for was done: the one path was checked, or the state of each file was printed in a line.
abbrev pub Checks
    : Survey → Ending → Option (List ℕ) → Option (List ℕ) → Option (List Access) → Option (List Access) → Type 0
Checks survey ending p q old new = ChecksFor (lone_path survey) survey ending p q old new
  where
    ChecksFor : Option (List ℕ) → Survey → Ending → Option (List ℕ) → Option (List ℕ)
        → Option (List Access) → Option (List Access) → Type 0
    ChecksFor (Some path) survey ending p q old new = ChecksOne path ending p q old new
    ChecksFor None survey ending p q old new = Surveys survey ending p q old new

-- It was not done, or not to its end.
abbrev pub IsUnchecked
    : Survey → Option (List ℕ) → Option (List ℕ) → Option (List Access) → Option (List Access) → Message → Type 0
IsUnchecked survey p q old new message = IsUncheckedFor (lone_path survey) survey p q old new message
  where
    IsUncheckedFor : Option (List ℕ) → Survey → Option (List ℕ) → Option (List ℕ)
        → Option (List Access) → Option (List Access) → Message → Type 0
    IsUncheckedFor (Some path) survey p q old new message = IsOneUnchecked path p q old new message
    IsUncheckedFor None survey p q old new message = IsUnsurveyed survey p q old new message

-- In what follows `h` and `k` are the reports that the watch has heard before and after; they are said of a job.

-- What the request asks for was done: a task or a survey, the faulty lines of texts were printed, a job was run to its end,
-- the zone of one of its applications was printed, a script was run with files, what was made of one file or of two was delivered, what is
-- in a file was written into a folder, the fork that a folder states was written, a fork was printed as source, or the fork that a source
-- states was written.
abbrev pub IsDone : Request → Ending → Option (List ℕ) → Option (List ℕ) → Option (List ℕ) → Option (List ℕ)
    → Option (List Access) → Option (List Access) → Type 0
IsDone (Look task) ending h k p q old new = Looks task ending p q old new
IsDone (Check survey) ending h k p q old new = Checks survey ending p q old new
IsDone (Lint linting) ending h k p q old new = Lints linting ending p q old new
IsDone (Run errand) ending h k p q old new =
    (ending ≡ Done) × (q ≡ p) × Runs errand h k old new
IsDone (Show zone) ending h k p q old new = (ending ≡ Done) × Shows zone p q old new
IsDone (Play playing) ending h k p q old new = (ending ≡ Done) × Plays playing p q old new
IsDone (Convert conversion) ending h k p q old new = (ending ≡ Done) × Converts conversion p q old new
IsDone (Combine combination) ending h k p q old new = Combines combination ending p q old new
IsDone (Extract extraction) ending h k p q old new = (ending ≡ Done) × (q ≡ p) × Extracts extraction old new
IsDone (Pack packing) ending h k p q old new = (ending ≡ Done) × (q ≡ p) × Packs packing old new
IsDone (Print printing) ending h k p q old new = (ending ≡ Done) × PrintsSource printing p q old new
IsDone (Assemble assembly) ending h k p q old new = (ending ≡ Done) × Assembles assembly p q old new

-- What the request asks for was not done, or not to its end.
abbrev pub IsUndone : Request → Option (List ℕ) → Option (List ℕ) → Option (List ℕ) → Option (List ℕ)
    → Option (List Access) → Option (List Access) → Message → Type 0
IsUndone (Look task) h k p q old new message = IsUnseen task p q old new message
IsUndone (Check survey) h k p q old new message = IsUnchecked survey p q old new message
IsUndone (Lint linting) h k p q old new message = IsUnlinted linting p q old new message
IsUndone (Run errand) h k p q old new message =
    (q ≡ p) × IsStopped errand h k old new message
IsUndone (Show zone) h k p q old new message = IsUnshown zone p q old new message
IsUndone (Play playing) h k p q old new message = IsUnplayed playing p q old new message
IsUndone (Convert conversion) h k p q old new message = IsUnconverted conversion p q old new message
IsUndone (Combine combination) h k p q old new message = IsUncombined combination p q old new message
IsUndone (Extract extraction) h k p q old new message = (q ≡ p) × IsUnextracted extraction old new message
IsUndone (Pack packing) h k p q old new message = (q ≡ p) × IsUnpacked packing old new message
IsUndone (Print printing) h k p q old new message = IsSourceUnprinted printing p q old new message
IsUndone (Assemble assembly) h k p q old new message = IsUnassembled assembly p q old new message

-- The words make no request, and nothing was done; or not all was done for which they ask.
pub data IsNotDone (words : List (List ℕ)) (h k p q : Option (List ℕ)) (old new : Option (List Access)) (message : Message)
    : Type 0 where
  AsksNothing : k ≡ h → q ≡ p → new ≡ old → IsUsage message → IsNotDone words h k p q old new message
  Asks : (request : Request) → IsAskedBy words request → IsUndone request h k p q old new message
      → IsNotDone words h k p q old new message
