use Rattle.std.specs.Prelude.{ℕ, ◌-◌, List, [], ◌∷◌, drop, take, if◌then◌else◌}
use Rattle.script_text.specs.Script.{ScriptParts}
use Rattle.script_text.specs.declared.script.Line.{Line}
use Rattle.res_calls.specs.Files.{Resources}
use Rattle.applications.specs.Alone.{first_steps}
use Rattle.applications.specs.Step.{Course}
use Rattle.applications.specs.Trying.{Blocks, Running}
use Rattle.zone_drawing.specs.Quiet.{gathered}
use Rattle.zone_drawing.specs.Steps.{Moment, steps_svg}
use Rattle.transcript_words.specs.Source.{source}
use Rattle.zone_replay.specs.Behind.{told}
use Rattle.zone_replay.specs.Inside.{gathered_inside, inside_behind}
use Rattle.zone_replay.specs.Moments.{moments_behind, moments_of}
use Rattle.zone_replay.specs.declared.moments.Strips.{Strips}

-- The moments of an application that are drawn: each at which the zone is another than before, or all; and between them what
-- the zone was inside the calls, where that is asked for.

-- Those after the steps of lines, after others.
abbrev pub drawn_of : Strips → List (List ℕ) → Blocks → List Moment → List Line → Running → List Moment
drawn_of s written blocks ms lines r = if s.inside then gathered_inside written blocks s.all ms lines r
    else gathered s.all ms (moments_of written blocks lines r)

-- The moment after the first steps, so many, and those after each of the steps that follow.
abbrev pub drawn_behind : Strips → List (List ℕ) → Blocks → ℕ → List Line → List ℕ → Course → List Moment
drawn_behind s written blocks n lines transcript c =
    if s.inside then inside_behind written blocks s.all n lines transcript c
    else gathered s.all [] (moments_behind written blocks n lines transcript c)

-- The moments of an application with these resources, in a fresh partition of `size` bytes, as a picture: after the first
-- `from` steps of a script, whose text is given, and after each further step up to that number; none follows the step at which
-- the application ends.
abbrev pub moments_svg : Strips → Resources → ℕ → ScriptParts → List ℕ → ℕ → ℕ → List ℕ
moments_svg s resources size script text from to = steps_svg s.part (drawn_behind s (source text) script.blocks from
    (take (to - from) (drop from script.steps)) (told resources size script from) (first_steps resources size script from))
