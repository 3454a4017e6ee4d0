use Rattle.std.specs.Prelude.{ℕ, ℤ, Bool, List, [], ◌∷◌, ◌++◌, codes, map, if◌then◌else◌}
use Rattle.script_text.specs.Call.{word_of}
use Rattle.script_text.specs.Transcript.{Shown, grow_line, reply_line}
use Rattle.script_text.specs.declared.script.Line.{Line}
use Rattle.script_text.specs.declared.word.CallWord.{CallWord}
use Rattle.applications.specs.Inside.{Glance, glances}
use Rattle.applications.specs.Step.{Course, step}
use Rattle.applications.specs.Trying.{Blocks, Running}
use Rattle.zone_drawing.specs.Inside.{added_with, inside}
use Rattle.zone_drawing.specs.Steps.{Moment}
use Rattle.zone_drawing.specs.View.{view_moment}
use Rattle.transcript_words.specs.Words.{call_words}
use Rattle.zone_replay.specs.Known.{tag}
use Rattle.zone_replay.specs.Moments.{moment, step_moment, words_after}
use Rattle.zone_replay.specs.Shown.{zone_lines}
use Rattle.zone_replay.specs.declared.inside.Try as seen

-- The moments of an application with what its zone was inside the calls: after each try that found no room, after each line
-- of a grow-zone script, once blocks had been purged, and once room had been made.

-- The line of a transcript that a try has, without values: that of a call of a grow-zone script, or of a call.
abbrev pub try_line : Bool → ℕ → CallWord → ℤ → List Shown → List ℕ
try_line grown number word code values =
    if grown then grow_line number word code values else reply_line number word code values

abbrev pub glance_line : Glance → List ℕ
glance_line g = try_line g.grown g.line.number (word_of g.line.call) g.code.0 []

-- A try in words: its call as it was written, with its result code.
abbrev pub glance_front : Bool → List ℕ
glance_front grown = if grown then [] else codes "tried: "

abbrev pub glance_words : List (List ℕ) → Glance → List ℕ
glance_words written g = glance_front g.grown ++ call_words written (glance_line g)

-- The moment after a try.
abbrev pub glance_moment : List (List ℕ) → Glance → Moment
glance_moment written g = moment g.line.number (glance_words written g) g.after

-- A try that was seen: the moment after it, of which the words are the line of a transcript that the try has; and with the
-- try in words.
pub record Try : Type 0 where
  pub grown : Bool
  pub after : Moment

abbrev pub try_of : Glance → Try
try_of g = record { grown = g.grown; after = moment g.line.number (glance_line g) g.after }

abbrev pub view_try : seen.Try → Try
view_try t = record { grown = t.grown; after = view_moment t.after }

abbrev pub in_words : List (List ℕ) → Try → Moment
in_words written t = record t.after { caption = glance_front t.grown ++ call_words written t.after.caption }

-- The moment after a step, after others, with the strips inside the step.
abbrev pub step_added : List (List ℕ) → Blocks → Bool → List Moment → Line → Running → List Moment
step_added written blocks all ms l r = added_with all ms
    (inside all (zone_lines (tag r) r.memory.heap.zone) (map (glance_moment written) (glances blocks l r))
    (step_moment written l (step blocks l r)))
    (step_moment written l (step blocks l r))

-- What follows a course, where the application goes on.
abbrev pub unless_ended : Course → List Moment → (Running → List Moment) → List Moment
unless_ended c ms later = if c.over then ms else later c.after

-- The moments after each of the steps of lines, after others, up to the step at which the application ends.
abbrev pub gathered_inside : List (List ℕ) → Blocks → Bool → List Moment → List Line → Running → List Moment
gathered_inside written blocks all ms [] r = ms
gathered_inside written blocks all ms (l ∷ lines) r =
    unless_ended (step blocks l r) (step_added written blocks all ms l r)
    (gathered_inside written blocks all (step_added written blocks all ms l r) lines)

-- The moment after the first steps, so many, and those after each of the steps that follow.
abbrev pub inside_behind : List (List ℕ) → Blocks → Bool → ℕ → List Line → List ℕ → Course → List Moment
inside_behind written blocks all n lines transcript c =
    unless_ended c (moment 0 (words_after written n transcript) c.after ∷ [])
    (gathered_inside written blocks all (moment 0 (words_after written n transcript) c.after ∷ []) lines)
