use Rattle.std.specs.Prelude.{◌≡◌, ◌≤◌, ℕ, Bool, false, Result, Ok, ◌++◌, length}
use Rattle.mac_words.specs.declared.code.OsErr.{OsErr}
use Rattle.fork_format.specs.Content.{Content}
use Rattle.script_text.specs.Script.{ScriptParts}
use Rattle.script_text.specs.Transcript.{launch_line}
use Rattle.res_calls.specs.Files.{Resources}
use Rattle.applications.specs.Application.{lines_told}
use Rattle.applications.specs.Alone.{alone, first_steps}
use Rattle.desk.specs.declared.job.App.{App}
use Rattle.desk.specs.Outcome.{Launched}
use Rattle.desk.specs.Phase.{Live, Phase, Waiting, Running, Ended}
use Rattle.desk.specs.Desk.{Place}
use Rattle.desk.specs.Job.{start_of}

-- The desk seen from one application. The definition of the desk names nothing of this; it is a law of the desk.

-- What a launched application leaves that runs alone.
abbrev pub launched_alone : Resources → ScriptParts → ℕ → ℕ → Bool → Launched
launched_alone resources script size n asked = record {
  size = size;
  steps = n;
  asked = asked;
  transcript = (alone resources size script n asked).transcript;
  files = (alone resources size script n asked).files;
}

-- An application that runs is what it is alone after the same number of steps of its script, in a partition of the same
-- size; none of these steps was its end.
pub record RunsAsAlone (resources : Resources) (script : ScriptParts) (live : Live) : Type 0 where
  pub within : live.steps ≤ length script.steps
  pub goes : (first_steps resources live.window.len script live.steps).over ≡ false
  pub state : live.state ≡ (first_steps resources live.window.len script live.steps).after
  pub text : live.transcript
      ≡ launch_line live.window.len ++ lines_told (first_steps resources live.window.len script live.steps).lines

-- What an application left is what it leaves alone, in a partition of the same size, after the same number of steps, and
-- after a quit if one was asked for.
abbrev pub LeftAsAlone : Resources → ScriptParts → Launched → Type 0
LeftAsAlone resources script l = l ≡ launched_alone resources script l.size l.steps l.asked

-- An application waits with the resources that were given for it; or it was launched with them, and runs, or has ended,
-- as it does alone.
abbrev pub IsAsAlone : Result Resources OsErr → ScriptParts → Phase → Type 0
IsAsAlone start script (Waiting given) = given ≡ start
IsAsAlone start script (Running live) =
    (resources : Resources) × (start ≡ Ok resources) × RunsAsAlone resources script live
IsAsAlone start script (Ended l) =
    (resources : Resources) × (start ≡ Ok resources) × LeftAsAlone resources script l

-- A place is that of an application of a job, whose phase is as it is alone.
pub record IsPlaceOf (system : Content) (app : App) (p : Place) : Type 0 where
  pub name : p.name ≡ app.name.0.items
  pub script : p.script ≡ app.script
  pub phase : IsAsAlone (start_of system app) app.script p.phase
