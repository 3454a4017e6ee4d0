use Rattle.std.specs.Prelude.{ℕ, ◌==◌, None, List, [], ◌∷◌, codes, if◌then◌else◌}
use Rattle.script_text.specs.declared.script.Line.{Line}
use Rattle.applications.specs.Application.{lines_told}
use Rattle.applications.specs.Step.{Course, step}
use Rattle.applications.specs.Trying.{Blocks, Running}
use Rattle.zone_drawing.specs.Steps.{Moment}
use Rattle.transcript_words.specs.Words.{call_words}
use Rattle.zone_replay.specs.Known.{tag}
use Rattle.zone_replay.specs.Shown.{zone_lines}

-- The moments of an application: how its zone lies after each of some steps of its script, one after another.

-- The moment after the call of a line, with the words for it.
abbrev pub moment : ℕ → List ℕ → Running → Moment
moment number words r = record {
  number = number;
  caption = words;
  passed = None;
  lines = zone_lines (tag r) r.memory.heap.zone;
}

-- The moment after a step: its call as it was written, with its result. `written` are the lines of the script's text.
abbrev pub step_moment : List (List ℕ) → Line → Course → Moment
step_moment written l c = moment l.number (call_words written (lines_told c.lines)) c.after

-- What follows a course, where the application goes on.
abbrev pub and_then : Course → (Running → List Moment) → List Moment
and_then c later = if c.over then [] else later c.after

-- The moments after each of the steps of lines, up to the step at which the application ends.
abbrev pub moments_of : List (List ℕ) → Blocks → List Line → Running → List Moment
moments_of written blocks [] r = []
moments_of written blocks (l ∷ lines) r =
    step_moment written l (step blocks l r) ∷ and_then (step blocks l r) (moments_of written blocks lines)

-- The words for the moment after the first steps, so many, whose transcript is given.
abbrev pub words_after : List (List ℕ) → ℕ → List ℕ → List ℕ
words_after written n transcript = if n == 0 then codes "launch" else call_words written transcript

-- The moment after the first steps, so many, and those after each of the steps that follow.
abbrev pub moments_behind : List (List ℕ) → Blocks → ℕ → List Line → List ℕ → Course → List Moment
moments_behind written blocks n lines transcript c =
    moment 0 (words_after written n transcript) c.after ∷ and_then c (moments_of written blocks lines)
