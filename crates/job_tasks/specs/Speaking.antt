use Rattle.std.specs.Prelude.{ℕ, ◌+◌, ◌&&◌, Bool, not, Option, Some, None, option_map, Result, Ok, Err, List, [], ◌∷◌}
use Rattle.std.specs.Prelude.{slice_get, if◌then◌else◌}
use Rattle.mac_words.specs.declared.code.OsErr.{OsErr}
use Rattle.fork_format.specs.Content.{Content}
use Rattle.script_text.specs.Script.{ScriptParts}
use Rattle.res_calls.specs.Files.{Resources}
use Rattle.desk.specs.declared.job.App.{App}
use Rattle.desk.specs.declared.job.Job.{Job}
use Rattle.desk.specs.Outcome.{Launched, AppResult, Outcome}
use Rattle.desk.specs.Whole.{system_of, start_with}
use Rattle.zone_replay.specs.Words.{told_alone}

-- What a run leaves, with its transcripts in words. `system` is the System file's content, and `text` the text of an
-- application's script.

-- What an application left, with its transcript in words: that of the application alone, with the resources with which it was
-- launched.
abbrev pub launched_in_words : Result Resources OsErr → ScriptParts → List ℕ → Launched → Launched
launched_in_words (Err code) script text l = l
launched_in_words (Ok resources) script text l =
    record l { transcript = told_alone resources l.size script text l.steps l.asked }

abbrev pub app_in_words : Result Content OsErr → Option App → Option (List ℕ) → AppResult → AppResult
app_in_words system None text t = t
app_in_words system (Some app) None t = t
app_in_words system (Some app) (Some text) t =
    record t { launched = option_map (launched_in_words (start_with system app) app.script text) t.launched }

-- The applications from the `i`-th on.
abbrev pub apps_in_words : Job → List (List ℕ) → ℕ → List AppResult → List AppResult
apps_in_words job scripts i [] = []
apps_in_words job scripts i (t ∷ apps) =
    app_in_words (system_of job) (slice_get job.apps.items i) (slice_get scripts i) t ∷ apps_in_words job scripts (i + 1) apps

-- What is written of a run: its transcripts are in words where that is asked for, unless the run stopped since the host was out
-- of memory.
abbrev pub written_of : Bool → Job → List (List ℕ) → Outcome → Outcome
written_of in_words job scripts o =
    if in_words && not o.stopped then record o { apps = apps_in_words job scripts 0 o.apps } else o
