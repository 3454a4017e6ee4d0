use Rattle.std.specs.Prelude.{◌≡◌, ℕ, ◌+◌, ◌-◌, Bool, true, false, Result, Ok, Err, Some, List, [], ◌++◌, length, IsTrue, codes}
use Rattle.script_text.specs.Script.{ScriptParts, script_of, spelled}
use Rattle.applications.specs.Alone.{script_alone}
use Rattle.applications.specs.Trying.{own_resources}
use Rattle.fork_format.specs.Content.{Content}
use Rattle.fork_format.specs.Canonical.{canon, fits}
use Rattle.fork_commands.specs.Info.{info_text}
use Rattle.fork_commands.specs.Reading.{content_of_fork, fork_in, content_in}
use Rattle.fork_commands.specs.States.{state_words}
use Rattle.fork_commands.specs.declared.fault.FileFault.{FileFault}
use Rattle.script_text.specs.declared.script.Line.{Line}
use Rattle.zone_replay.specs.Behind.{steps_at}
use Rattle.zone_replay.specs.Sight.{sight_text}
use Rattle.zone_replay.specs.declared.sight.Sight.{Sight}
use Rattle.zone_replay.specs.declared.sight.Sight.TheVariants as sight
use Rattle.zone_replay.specs.declared.words.Telling.{Telling}
use Rattle.zone_replay.specs.declared.words.Telling.TheVariants as telling
use Rattle.fork_tasks.specs.Listing.{listing}
use Rattle.fork_tasks.specs.declared.listing.Spelling.{Spelling}
use Rattle.job_tasks.specs.declared.work.Form.{Form}
use Rattle.job_tasks.specs.declared.work.Lines.{Lines}
use Rattle.job_tasks.specs.declared.work.Lines.TheVariants as lines
use Rattle.job_tasks.specs.declared.work.ToldLines.{ToldLines}
use Rattle.job_tasks.specs.declared.work.ToldLines.TheVariants as told
use Rattle.job_tasks.specs.declared.work.ZoneView.{ZoneView}
use Rattle.job_tasks.specs.declared.work.Form.TheVariants.{Canonical, Accepted}

-- The transcript of a script's text in a fresh partition of `n` bytes: that of the steps and the grow-zone scripts
-- which the text spells.
abbrev pub IsTranscriptOf : ℕ → List ℕ → List ℕ → Type 0
IsTranscriptOf n text out =
    (script : ScriptParts) × (script_of text ≡ Ok (spelled script)) × (out ≡ (script_alone n script).transcript)

-- What is shown of an application with these steps: its zone after the steps up to a line, in a form; or after those up
-- to one line and after each further step up to another line, as a picture.
abbrev pub sight_of : Lines → List Line → Sight
sight_of (lines.One line form) steps = sight.Zone (steps_at line steps) form
sight_of (lines.Each from to strips) steps = sight.Moments (steps_at (Some from) steps) (steps_at (Some to) steps) strips

-- How much of the transcript of an application with these steps is told in words: all of it, to the end of the script; or the
-- steps from one line to another.
abbrev pub telling_of : ToldLines → List Line → Telling
telling_of told.All steps = telling.Whole (length steps + 1) false
telling_of (told.Each from to) steps = telling.Steps (steps_at (Some (from - 1)) steps) (steps_at (Some to) steps)

-- What is shown of a script's application, by the steps of the script's text.
abbrev pub IsZoneOf : ZoneView → List ℕ → List ℕ → Type 0
IsZoneOf asked text out = (script : ScriptParts) × (script_of text ≡ Ok (spelled script))
    × (out ≡ sight_text (sight_of asked.lines script.steps) own_resources asked.size.bytes script text)

-- The listing of the resource fork in the bytes of a file: that of the content which the fork's bytes spell.
abbrev pub IsListingOf : Spelling → List ℕ → List ℕ → Type 0
IsListingOf spelling bytes out = (c : Content) × (content_in bytes ≡ Ok c) × (out ≡ listing spelling [] c)

-- What is said of a file after the lines of what it is: the listing of its fork, or the state of a file whose fork has no
-- content.
abbrev pub described : Spelling → List ℕ → List ℕ → Result Content FileFault → List ℕ
described spelling info bytes (Ok c) = listing spelling info c
described spelling info bytes (Err fault) = info ++ codes "state " ++ state_words true bytes ++ codes "\n"

abbrev pub IsDescription : Spelling → List ℕ → List ℕ → Type 0
IsDescription spelling bytes out = (info : List ℕ) × (info_text bytes ≡ Ok info)
    × (out ≡ described spelling info bytes (content_in bytes))

-- What bytes are to a content that they spell: its canonical fork, or another fork.
-- See decision 130 (`check` accepts a fork that cannot be written back).
abbrev pub TellsForm : Form → Content → List ℕ → Type 0
TellsForm Canonical c bytes = IsTrue (fits c) × (bytes ≡ canon c)
TellsForm Accepted c bytes = ¬ (IsTrue (fits c) × (bytes ≡ canon c))

-- The form of a resource fork: what its bytes are to the content that they spell.
abbrev pub IsForkForm : List ℕ → Form → Type 0
IsForkForm fork form = (c : Content) × (content_of_fork fork ≡ Ok c) × TellsForm form c fork

-- The form of the resource fork in the bytes of a file.
abbrev pub IsFormOf : List ℕ → Form → Type 0
IsFormOf bytes form = (fork : List ℕ) × (fork_in bytes ≡ Ok fork) × IsForkForm fork form

-- The line that is printed for a form.
abbrev pub text_of : Form → List ℕ
text_of Canonical = codes "canonical\n"
text_of Accepted = codes "accepted\n"

-- The line that is printed for the form of a resource fork.
abbrev pub IsFormText : List ℕ → List ℕ → Type 0
IsFormText bytes out = (form : Form) × IsFormOf bytes form × (out ≡ text_of form)
