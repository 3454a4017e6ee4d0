use Rattle.std.specs.Prelude.{ℕ, ◌-◌, Bool, true, false, Option, Some, None, List, [], ◌∷◌, ◌++◌, map, take, drop, if◌then◌else◌}
use Rattle.heap_calls.specs.State.{Meaning, Handle, Pointer, Disposed}
use Rattle.script_text.specs.Script.{ScriptParts}
use Rattle.script_text.specs.declared.script.Line.{Line}
use Rattle.res_calls.specs.Files.{Resources}
use Rattle.applications.specs.Alone.{Ending, ending, first_steps}
use Rattle.applications.specs.Application.{lines_told}
use Rattle.applications.specs.Step.{Course, step}
use Rattle.applications.specs.Trying.{Blocks, Running, launched_with, nowhere}
use Rattle.transcript_words.specs.Changes.{Standing, placed, changes}
use Rattle.transcript_words.specs.Source.{source}
use Rattle.transcript_words.specs.Words.{step_words, launch_words, end_words}
use Rattle.zone_replay.specs.Known.{tag}
use Rattle.zone_replay.specs.Shown.{zone_lines}
use Rattle.zone_replay.specs.declared.words.Telling.{Telling}
use Rattle.zone_replay.specs.declared.words.Telling.TheVariants as telling

-- The transcript of an application in words.

-- Whether a number stands for a handle.
abbrev pub stands_for_handle : Meaning → Bool
stands_for_handle (Handle role) = true
stands_for_handle Pointer = false
stands_for_handle Disposed = false

-- The zone of an application as it lies: the blocks of its handles and pointers, with their names.
abbrev pub standing : Running → Standing
standing r = record {
  blocks = placed (zone_lines (tag r) r.memory.heap.zone);
  handles = map stands_for_handle r.memory.heap.names;
}

-- A step: its lines, and what it changed, by the zone before the step and after it.
abbrev pub step_told_in : List (List ℕ) → Course → Running → List ℕ
step_told_in lines c r = step_words lines (changes (standing r) (standing c.after)) (lines_told c.lines)

-- What follows a step, where the application goes on.
abbrev pub then_told : Course → (Running → List ℕ) → List ℕ
then_told c later = if c.over then [] else later c.after

-- Steps, up to the one at which the application ends. `lines` are those of the script's text.
abbrev pub steps_told : List (List ℕ) → Blocks → List Line → Running → List ℕ
steps_told lines blocks [] r = []
steps_told lines blocks (l ∷ steps) r = step_told_in lines (step blocks l r) r
    ++ then_told (step blocks l r) (steps_told lines blocks steps)

-- The end, where the application ended.
abbrev pub end_told_in : Option Ending → List ℕ
end_told_in None = []
end_told_in (Some e) = end_words e.code.0

-- The transcript of an application with these resources that runs alone, as `alone` has it, in words: after `n` steps of
-- its script, whose text is given, in a partition of `size` bytes, and after a quit where `quit` asks for one.
abbrev pub told_alone : Resources → ℕ → ScriptParts → List ℕ → ℕ → Bool → List ℕ
told_alone resources size script text n quit = launch_words size
    ++ steps_told (source text) script.blocks (take n script.steps) (launched_with resources size nowhere)
    ++ end_told_in (ending resources size script n quit)

-- The steps after the first `from`, up to the number `to`, of the same application in words; none follows the step at which it
-- ends.
abbrev pub told_between : Resources → ℕ → ScriptParts → List ℕ → ℕ → ℕ → List ℕ
told_between resources size script text from to = then_told (first_steps resources size script from)
    (steps_told (source text) script.blocks (take (to - from) (drop from script.steps)))

-- So much of that transcript.
abbrev pub telling_text : Telling → Resources → ℕ → ScriptParts → List ℕ → List ℕ
telling_text (telling.Whole n quit) resources size script text = told_alone resources size script text n quit
telling_text (telling.Steps from to) resources size script text = told_between resources size script text from to
