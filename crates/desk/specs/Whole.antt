use Rattle.std.specs.Prelude.{◌≡◌, ℕ, Option, Some, None, option_map, Result, Ok, Err, List, [], ◌∷◌}
use Rattle.std.specs.Prelude.{IfSome}
use Rattle.mac_words.specs.declared.code.OsErr.{OsErr}
use Rattle.fork_format.specs.Code.{content_or_code}
use Rattle.fork_format.specs.Content.{Content}
use Rattle.fork_format.specs.View.{view}
use Rattle.fork_format.specs.declared.content.Content.{Content as Stored}
use Rattle.script_text.specs.Script.{ScriptParts}
use Rattle.res_calls.specs.Files.{Resources}
use Rattle.applications.specs.Trying.{no_content}
use Rattle.applications.specs.Alone.{alone}
use Rattle.desk.specs.declared.job.App.{App}
use Rattle.desk.specs.declared.job.Job.{Job}
use Rattle.desk.specs.declared.outcome.Outcome as declared
use Rattle.desk.specs.declared.outcome.RunFault.{RunFault}
use Rattle.desk.specs.declared.outcome.RunFault.TheVariants.{System, HostMemory}
use Rattle.desk.specs.Outcome.{Launched, AppResult, Outcome}
use Rattle.desk.specs.Halting.{IsLeft}
use Rattle.desk.specs.Job.{start_of, opening}
use Rattle.desk.specs.View.{outcome_seen}

-- Whole runs.

-- The content of the System file, or the result code for which its fork can't be read; if there is no System file, the
-- content has no resources.
abbrev pub system_in : Option (List ℕ) → Result Content OsErr
system_in None = Ok no_content
system_in (Some fork) = content_or_code fork

abbrev pub system_of : Job → Result Content OsErr
system_of job = system_in (option_map (λ fork. fork.items) job.system)

-- The resources with which an application is launched, with the System file's content; or the result code for which the
-- System file's fork can't be read, or then the application's own can't be opened.
abbrev pub start_with : Result Content OsErr → App → Result Resources OsErr
start_with (Err code) app = Err code
start_with (Ok system) app = start_of system app

-- What a run of the job leaves, if the System file's fork can be read.
abbrev pub LeftWith : Result Content OsErr → Job → Outcome → Type 0
LeftWith (Err code) job outcome = ⊥
LeftWith (Ok system) job outcome = IsLeft outcome job.events.items (opening job.memory system job.apps.items)

abbrev pub LeftByRun : Job → Outcome → Type 0
LeftByRun job outcome = LeftWith (system_of job) job outcome

-- The result of a run, as the code holds it. A run is refused exactly if the System file's fork can't be read; nothing
-- is said if the host was out of memory before the first event.
abbrev pub IsOutcome : Job → Result declared.Outcome RunFault → Type 0
IsOutcome job (Ok outcome) = LeftByRun job (outcome_seen outcome)
IsOutcome job (Err (System code)) = system_of job ≡ Err code
IsOutcome job (Err HostMemory) = Unit {0}

-- Laws of each application that was launched, of the resources with which it was launched, its script, and what it
-- leaves.
abbrev pub Law : Type 1
Law = Resources → ScriptParts → Launched → Type 0

abbrev pub OfLaunched : Law → Result Resources OsErr → ScriptParts → AppResult → Type 0
OfLaunched P start script t =
    IfSome t.launched (λ l. (resources : Resources) × (start ≡ Ok resources) × P resources script l)

abbrev pub OfEach : Law → Content → List App → List AppResult → Type 0
OfEach P system [] [] = Unit {0}
OfEach P system (app ∷ apps) (t ∷ told) = OfLaunched P (start_of system app) app.script t × OfEach P system apps told
OfEach P system [] (t ∷ told) = ⊥
OfEach P system (app ∷ apps) [] = ⊥

-- A law holds of each launched application of a job.
abbrev pub OfEachApp : Law → Result Content OsErr → List App → List AppResult → Type 0
OfEachApp P (Err code) apps told = ⊥
OfEachApp P (Ok system) apps told = OfEach P system apps told

abbrev pub EachLaunched : Law → Job → declared.Outcome → Type 0
EachLaunched P job outcome = OfEachApp P (system_of job) job.apps.items (outcome_seen outcome).apps

-- An application's transcript, and its files with what was written of them, are those that it leaves when it runs
-- alone in a partition of the same size for the same number of steps.
abbrev pub IsAlone : Law
IsAlone resources script l =
    (l.transcript ≡ (alone resources l.size script l.steps l.asked).transcript)
    × (l.files ≡ (alone resources l.size script l.steps l.asked).files)

-- A law of the first steps of an application in a partition of some size holds of those that the application took.
abbrev pub InItsSteps : (Resources → ℕ → ScriptParts → ℕ → Type 0) → Law
InItsSteps P resources script l = P resources l.size script l.steps

-- The System file's content, as the code holds it; nothing is said if the host was out of memory.
abbrev pub IsSystem : Result Content OsErr → Result Stored RunFault → Type 0
IsSystem system (Ok content) = system ≡ Ok (view content)
IsSystem system (Err (System code)) = system ≡ Err code
IsSystem system (Err HostMemory) = Unit {0}
