use Rattle.std.specs.Prelude.{◌≡◌, ◌<◌, ℕ, List, [], ◌∷◌, ◌++◌, zero, suc, take, if◌then◌else◌}
use Rattle.script_text.specs.Script.{ScriptParts}
use Rattle.script_text.specs.declared.script.Line.{Line}
use Rattle.res_calls.specs.Files.{Resources}
use Rattle.applications.specs.Trying.{Running, Blocks, launched_with, nowhere}
use Rattle.applications.specs.Step.{step, course_of}
use Rattle.applications.specs.Application.{lines_told}

-- What a run leaves that stops because the host is out of memory: what the steps leave that were completed. Nothing is
-- left of the step that was not.

-- The number of steps that a run takes: to the last line, or to the end of the application.
abbrev pub steps_taken : Blocks → List Line → Running → ℕ
steps_taken blocks [] r = zero
steps_taken blocks (l ∷ lines) r =
    suc (if (step blocks l r).over then zero else steps_taken blocks lines (step blocks l r).after)

-- The number of the first `n` steps of a script that an application with these resources takes when it runs alone in a
-- partition of `size` bytes.
abbrev pub steps_alone : Resources → ℕ → ScriptParts → ℕ → ℕ
steps_alone resources size script n =
    steps_taken script.blocks (take n script.steps) (launched_with resources size nowhere)

-- A run stopped after its first `k` steps, and has further steps to take. The text grew by the lines of those steps, and
-- the files are as they left them.
pub record StopsAfter (k : ℕ) (blocks : Blocks) (lines : List Line) (r after : Running) (old new : List ℕ) : Type 0
  where
    pub fewer : k < steps_taken blocks lines r
    pub text : new ≡ old ++ lines_told (course_of blocks (take k lines) r).lines
    pub files : after.resources.files ≡ (course_of blocks (take k lines) r).after.resources.files
