use Rattle.std.specs.Prelude.{◌≡◌, ℕ, Bool, true, false, Option, Ok, Err, List, [], ◌∷◌, map, length}
use Rattle.std.specs.Io.KnownBytes.{append_known}
use Rattle.script_text.specs.Job.{Job as TextJob, job_of}
use Rattle.applications.specs.Reports.{reports}
use Rattle.desk.specs.declared.job.Job.{Job}
use Rattle.desk.specs.Outcome.{Outcome}
use Rattle.fork_commands.specs.declared.fault.FileFault.TheVariants.{Code}
use Rattle.desk.specs.Whole.{system_of, LeftByRun}
use Rattle.fork_tasks.specs.Fault.{Message, Script, Fork, HostMemory}
use Rattle.fork_tasks.specs.Accesses.{Access, Read, Folder, Write, and_then, IsUnread, Stops, StopsAmong}
use Rattle.job_tasks.specs.declared.running.Errand.{Errand}
use Rattle.job_tasks.specs.Gathering.{GivenSource, nothing_given, with_inputs, reads_of, system_path, job_given, IsStop}
use Rattle.job_tasks.specs.Outputs.{Written, sources_unless, left_by}
use Rattle.job_tasks.specs.Sizing.{IsSized, IsUnnamed}
use Rattle.job_tasks.specs.Speaking.{written_of}

-- A job is read and run, and what it leaves is written.

-- The text of a job, as its file at a path.
pub record Stated : Type 0 where
  pub text : List ℕ
  pub lines : TextJob
  pub states : job_of text ≡ Ok lines

-- A job with all that its lines name: the texts at the paths of each line, and the job, the texts of its scripts and the sources of
-- its forks that they give.
pub record Taken : Type 0 where
  pub stated : Stated
  pub texts : List (List (List ℕ))
  pub job : Job
  pub scripts : List (List ℕ)
  pub sources : List GivenSource
  pub memory : job.memory ≡ stated.lines.memory
  pub events : job.events.items ≡ stated.lines.events
  pub given : with_inputs nothing_given stated.lines.inputs texts ≡ Ok (job_given job scripts sources)

-- The files that are read for a job: its own, at its path, and those that its lines name, in their order.
abbrev pub reads_for : List ℕ → Stated → List (List (List ℕ)) → List Access
reads_for path stated texts = Read path stated.text ∷ reads_of stated.lines.inputs texts

-- What is written for a job: the folder is made, and the files that the run leaves are written into it, in order.
abbrev pub write_of : Written → Access
write_of file = Write file.path file.bytes

abbrev pub writes_for : List ℕ → List GivenSource → Outcome → List Access
writes_for folder sources outcome = Folder folder ∷ map write_of (left_by folder sources outcome)

-- The fault of a job's text is its first faulty line.
abbrev pub IsJobFault : List ℕ → List ℕ → Message → Type 0
IsJobFault path text HostMemory = Unit {0}
IsJobFault path text (Script named line kind) = (named ≡ path) × (job_of text ≡ Err (line, kind))
IsJobFault path text message = ⊥

-- The fault of a run that leaves nothing is that the fork of the System file, which was read at this path, is no fork.
abbrev pub IsRunFault : List ℕ → Job → Message → Type 0
IsRunFault system job HostMemory = Unit {0}
IsRunFault system job (Fork named (Code code)) = (named ≡ system) × (system_of job ≡ Err code)
IsRunFault system job message = ⊥

-- What a watch has heard before and after a run of which so many events were completed: of these events, if the run is
-- watched, and else of nothing.
abbrev pub Hears : Bool → Job → ℕ → Option (List ℕ) → Option (List ℕ) → Type 0
Hears true job done h k = k ≡ append_known h (reports done (length job.events.items))
Hears false job done h k = k ≡ h

-- In what follows `h` and `k` are the reports that the watch has heard before and after, `old` and `new` the accesses to
-- files.

-- What a run leaves that did not stop was written into the folder of an errand. `scripts` are the texts of the applications'
-- scripts.
abbrev pub Leaves : Errand → Job → List (List ℕ) → List GivenSource → Option (List ℕ) → Option (List ℕ)
    → Option (List Access) → Option (List Access) → Type 0
Leaves errand job scripts sources h k old new =
    (outcome : Outcome) × (outcome.stopped ≡ false) × LeftByRun job outcome × Hears errand.watched job outcome.done h k
    × (new ≡ and_then old (writes_for errand.out.now sources (written_of errand.in_words job scripts outcome)))

-- All that a run leaves was written, and the run stopped, which is a fault of the host's memory; or what it leaves was not
-- written to its end.
pub data IsUnwell (folder : List ℕ) (sources : List GivenSource) (outcome : Outcome) (old new : Option (List Access))
    (message : Message) : Type 0 where
  Halted : outcome.stopped ≡ true → new ≡ and_then old (writes_for folder sources outcome) → message ≡ HostMemory
      → IsUnwell folder sources outcome old new message
  NotWritten : StopsAmong (writes_for folder sources outcome) old new message
      → IsUnwell folder sources outcome old new message

-- A run did not begin, and the watch has heard nothing; or the host was out of memory for the transcripts in words, and nothing
-- was written; or the run stopped, and what it leaves was written all the same; or what it leaves was not written to its end.
pub data IsUnleft (system : List ℕ) (errand : Errand) (job : Job) (scripts : List (List ℕ)) (sources : List GivenSource)
    (h k : Option (List ℕ)) (old new : Option (List Access)) (message : Message) : Type 0 where
  NotRun : k ≡ h → new ≡ old → IsRunFault system job message
      → IsUnleft system errand job scripts sources h k old new message
  Unspoken : (outcome : Outcome) → LeftByRun job outcome → Hears errand.watched job outcome.done h k → new ≡ old
      → message ≡ HostMemory → IsUnleft system errand job scripts sources h k old new message
  Run : (outcome : Outcome) → LeftByRun job outcome → Hears errand.watched job outcome.done h k
      → IsUnwell errand.out.now sources (written_of errand.in_words job scripts outcome) old new message
      → IsUnleft system errand job scripts sources h k old new message

-- The files that the forks of a job are put into, as the words ask.
abbrev pub sources_for : Errand → Taken → List GivenSource
sources_for errand t = sources_unless errand.bare t.sources

-- A job was run to its end, with the sizes that are asked for: all input was read, then all that it leaves was written, and no
-- other file was read or written.
abbrev pub Runs : Errand → Option (List ℕ) → Option (List ℕ) → Option (List Access) → Option (List Access) → Type 0
Runs errand h k old new =
    (t : Taken) × (job : Job) × IsSized errand.sizes.items t.job job
    × Leaves errand job t.scripts (sources_for errand t) h k
    (and_then old (reads_for errand.job.now t.stated t.texts)) new

-- Why a job was not run to its end, and what was read and written before. If the host is out of memory, the job may
-- stop anywhere; a run that stops within its events leaves what was completed, and that is written.
pub data IsStopped (errand : Errand) (h k : Option (List ℕ)) (old new : Option (List Access)) (message : Message)
    : Type 0 where
  -- the job can't be read
  Unread : k ≡ h → IsUnread errand.job.now old new message → IsStopped errand h k old new message
  -- its text is faulty
  Misstated : (text : List ℕ) → k ≡ h → new ≡ and_then old (Read errand.job.now text ∷ [])
      → IsJobFault errand.job.now text message → IsStopped errand h k old new message
  -- a file that a line names can't be read, or the text of a script is faulty
  Ungathered : (stated : Stated) (texts : List (List (List ℕ))) → k ≡ h
      → Stops (and_then old (reads_for errand.job.now stated texts)) new message
      → IsStop (with_inputs nothing_given stated.lines.inputs texts) message → IsStopped errand h k old new message
  -- all input was read, and a size is asked for an application that the job doesn't have
  Unnamed : (t : Taken) → k ≡ h → new ≡ and_then old (reads_for errand.job.now t.stated t.texts)
      → IsUnnamed errand.job.now errand.sizes.items t.job message → IsStopped errand h k old new message
  -- all input was read, and the System file's fork is no fork, or the run stopped and all that it leaves was written, or
  -- the folder can't be made, or a file can't be written
  Unleft : (t : Taken) (job : Job) → IsSized errand.sizes.items t.job job
      → IsUnleft (system_path t.stated.lines.inputs) errand job t.scripts (sources_for errand t) h k
      (and_then old (reads_for errand.job.now t.stated t.texts)) new message
      → IsStopped errand h k old new message
