use Rattle.std.specs.Prelude.{◌≡◌, ℕ, Option, None, option_map, Result, Ok, Err, List, [], ◌∷◌, ◌++◌, map, length, codes}
use Rattle.mac_words.specs.declared.code.OsErr.{OsErr}
use Rattle.fork_format.specs.Content.{Content}
use Rattle.script_text.specs.Script.{script_of, spelled}
use Rattle.res_calls.specs.Files.{Resources}
use Rattle.applications.specs.Alone.{Alone, to_its_end}
use Rattle.desk.specs.declared.job.App.{App}
use Rattle.desk.specs.declared.job.Job.{Job}
use Rattle.desk.specs.Whole.{system_of, start_with}
use Rattle.fork_commands.specs.declared.fault.FileFault.TheVariants.{Code}
use Rattle.zone_replay.specs.Sight.{sight_text}
use Rattle.zone_replay.specs.Words.{telling_text}
use Rattle.fork_tasks.specs.declared.delivering.Target.TheVariants.{Printed}
use Rattle.job_tasks.specs.declared.playing.Playing.{Playing}
use Rattle.job_tasks.specs.declared.playing.PlayWork.{PlayWork}
use Rattle.job_tasks.specs.declared.playing.PlayWork.TheVariants as work
use Rattle.fork_tasks.specs.Accesses.{Access, Folder, and_then, reads_at, StopsReading, StopsAmong}
use Rattle.fork_tasks.specs.Delivering.{Delivers, IsUndelivered}
use Rattle.fork_tasks.specs.Fault.{Message, Fork, HostMemory}
use Rattle.job_tasks.specs.Gathering.{GivenSource, app_given, IsStop}
use Rattle.job_tasks.specs.Loading.{AppFork, Given, part_seen, path_of, own_path, system_path, nothing_given, with_parts, sources_of}
use Rattle.job_tasks.specs.Outputs.{Written, source_at, forks_within, log_within}
use Rattle.job_tasks.specs.Running.{write_of}
use Rattle.job_tasks.specs.Tasks.{IsScriptFault}
use Rattle.job_tasks.specs.declared.work.Lines.{Lines}
use Rattle.job_tasks.specs.declared.work.ToldLines.{ToldLines}
use Rattle.job_tasks.specs.Work.{sight_of, telling_of}

-- A script is run with files, as an application alone: the script and the files are read, and the transcript, or the zone, is
-- printed, or what the application leaves is written into a folder. `p` and `q` are the bytes that have been printed before
-- and after, `old` and `new` the accesses to files.

-- The application's name, which is also that of its own file.
abbrev pub player_name : List ℕ
player_name = codes "script"

-- The parts, and the paths at which files are read: that of the script, and those of the parts.
abbrev pub parts_of : Playing → List AppFork
parts_of play = map part_seen play.parts.items

abbrev pub paths_read : Playing → List (List ℕ)
paths_read play = play.script.now ∷ map path_of (parts_of play)

-- The System file of a job, an application, and where the forks of its files were read, are what the bytes at those paths
-- give: first those of the script, and then those of the parts.
pub record IsTaken (play : Playing) (texts : List (List ℕ)) (job : Job) (app : App) (sources : List GivenSource)
    : Type 0 where
  pub text : List ℕ
  pub more : List (List ℕ)
  pub split : texts ≡ text ∷ more
  pub spells : script_of text ≡ Ok (spelled app.script)
  pub given : Given
  pub gives : with_parts nothing_given (parts_of play) more ≡ Ok given
  pub system : option_map (λ fork. fork.items) job.system ≡ given.system
  pub made : app_given app
      ≡ record { name = player_name; fork = given.own.0; files = given.files; size = None; script = spelled app.script }
  pub from : sources ≡ sources_of given

-- The text of the script is faulty, or the wrapper of a fork is damaged.
pub data IsUntaken (play : Playing) (texts : List (List ℕ)) (message : Message) : Type 0 where
  Misspelled : (text : List ℕ) (more : List (List ℕ)) → texts ≡ text ∷ more
      → IsScriptFault play.script.now text message → IsUntaken play texts message
  Unfound : (text : List ℕ) (more : List (List ℕ)) → texts ≡ text ∷ more
      → IsStop (with_parts nothing_given (parts_of play) more) message → IsUntaken play texts message

-- All files were read, each once, and make this application.
abbrev pub Takes : Playing → List (List ℕ) → Job → App → List GivenSource → Option (List Access) → Option (List Access)
    → Type 0
Takes play texts job app sources old new = (length texts ≡ length (paths_read play))
    × (new ≡ and_then old (reads_at (paths_read play) texts)) × IsTaken play texts job app sources

-- A file can't be read, or all were read and make none.
pub data IsNotTaken (play : Playing) (old new : Option (List Access)) (message : Message) : Type 0 where
  Unread : StopsReading (paths_read play) old new message → IsNotTaken play old new message
  Untaken : (texts : List (List ℕ)) → new ≡ and_then old (reads_at (paths_read play) texts)
      → IsUntaken play texts message → IsNotTaken play old new message

-- The path of the fork at fault where there are no resources to launch the application with: that of the System file, if its
-- fork can't be read, and else that of the application's own.
abbrev pub path_at_fault : List AppFork → Result Content OsErr → List ℕ
path_at_fault parts (Err code) = system_path parts
path_at_fault parts (Ok system) = own_path parts

abbrev pub IsLaunchFault : List AppFork → Job → App → Message → Type 0
IsLaunchFault parts job app HostMemory = Unit {0}
IsLaunchFault parts job app (Fork named (Code code)) =
    (named ≡ path_at_fault parts (system_of job)) × (start_with (system_of job) app ≡ Err code)
IsLaunchFault parts job app message = ⊥

-- The text of the script, the first of those that were read.
abbrev pub script_among : List (List ℕ) → List ℕ
script_among [] = []
script_among (text ∷ more) = text

-- The transcript in words of the application alone, with these resources, or that of the steps on some lines.
abbrev pub words_of : Playing → ToldLines → List (List ℕ) → App → Resources → List ℕ
words_of play lines texts app resources =
    telling_text (telling_of lines app.script.steps) resources play.size.bytes app.script (script_among texts)

-- Its zone after the steps up to some lines, or a picture of moments.
abbrev pub zone_shown : Playing → Lines → List (List ℕ) → App → Resources → List ℕ
zone_shown play lines texts app resources =
    sight_text (sight_of lines app.script.steps) resources play.size.bytes app.script (script_among texts)

-- What the application leaves that takes all its steps alone, with these resources.
abbrev pub leaves_alone : Playing → App → Resources → Alone
leaves_alone play app resources = to_its_end resources play.size.bytes app.script

-- The files that are written of it: the forks that were written, each in the wrapper of the file in which it was read, and
-- then the transcript.
abbrev pub left_alone : List ℕ → List GivenSource → Alone → List Written
left_alone folder sources left = forks_within folder player_name (source_at 0 sources) 0 left.files
    ++ record { path = log_within folder player_name; bytes = left.transcript } ∷ []

abbrev pub writes_alone : List ℕ → List GivenSource → Alone → List Access
writes_alone folder sources left = Folder folder ∷ map write_of (left_alone folder sources left)

-- What was asked for was done: the transcript was printed, as it is or in words; what the application leaves was written; or
-- the zone was printed. `texts` are those that were read.
abbrev pub DoesPlay : Playing → PlayWork → List (List ℕ) → App → List GivenSource → Resources
    → Option (List ℕ) → Option (List ℕ) → Option (List Access) → Option (List Access) → Type 0
DoesPlay play work.Transcript texts app sources resources p q old new =
    Delivers Printed (leaves_alone play app resources).transcript p q old new
DoesPlay play (work.Words lines) texts app sources resources p q old new =
    Delivers Printed (words_of play lines texts app resources) p q old new
DoesPlay play (work.Leavings folder) texts app sources resources p q old new =
    (q ≡ p) × (new ≡ and_then old (writes_alone folder.now sources (leaves_alone play app resources)))
DoesPlay play (work.Zone lines) texts app sources resources p q old new =
    Delivers Printed (zone_shown play lines texts app resources) p q old new

-- It was not done to its end.
abbrev pub IsPlayUndone : Playing → PlayWork → List (List ℕ) → App → List GivenSource → Resources
    → Option (List ℕ) → Option (List ℕ) → Option (List Access) → Option (List Access) → Message → Type 0
IsPlayUndone play work.Transcript texts app sources resources p q old new message =
    IsUndelivered Printed (leaves_alone play app resources).transcript p q old new message
IsPlayUndone play (work.Words lines) texts app sources resources p q old new message =
    IsUndelivered Printed (words_of play lines texts app resources) p q old new message
IsPlayUndone play (work.Leavings folder) texts app sources resources p q old new message = (q ≡ p)
    × StopsAmong (writes_alone folder.now sources (leaves_alone play app resources)) old new message
IsPlayUndone play (work.Zone lines) texts app sources resources p q old new message =
    IsUndelivered Printed (zone_shown play lines texts app resources) p q old new message

-- All was read, and what was asked for was done. No other file was read or written.
abbrev pub Plays : Playing → Option (List ℕ) → Option (List ℕ) → Option (List Access) → Option (List Access) → Type 0
Plays play p q old new = (texts : List (List ℕ)) × (job : Job) × (app : App) × (sources : List GivenSource)
    × (mid : Option (List Access)) × (resources : Resources) × Takes play texts job app sources old mid
    × (start_with (system_of job) app ≡ Ok resources) × DoesPlay play play.work texts app sources resources p q mid new

-- Why it was not done, and what was read before: there is no application; the fork of the System file, or the application's
-- own, can't be opened; or what was asked for was not done to its end.
pub data IsUnplayed (play : Playing) (p q : Option (List ℕ)) (old new : Option (List Access)) (message : Message)
    : Type 0 where
  NotTaken : q ≡ p → IsNotTaken play old new message → IsUnplayed play p q old new message
  Unlaunched : (texts : List (List ℕ)) (job : Job) (app : App) (sources : List GivenSource) → q ≡ p
      → Takes play texts job app sources old new → IsLaunchFault (parts_of play) job app message
      → IsUnplayed play p q old new message
  Undone : (texts : List (List ℕ)) (job : Job) (app : App) (sources : List GivenSource) (mid : Option (List Access))
      (resources : Resources) → Takes play texts job app sources old mid → start_with (system_of job) app ≡ Ok resources
      → IsPlayUndone play play.work texts app sources resources p q mid new message
      → IsUnplayed play p q old new message
