use Rattle.std.specs.Prelude.{◌≡◌, ◌≤◌, ℕ, Bool, true, false, zero, suc, Option, List, [], ◌∷◌, ◌++◌, length, if◌then◌else◌}
use Rattle.mac_words.specs.declared.code.OsErr.{OsErr}
use Rattle.script_text.specs.declared.script.Line.{Line}
use Rattle.applications.specs.Step.{Event, Round, Ends, Again, marked_for, most_rounds, round}
use Rattle.applications.specs.Trying.{Blocks, Running, Tried, code_told, once}

-- What is seen inside a step: the application after each try of the call that found no room, and after each line of the
-- grow-zone script that is run for it. After the try with which the call ends it is as after the step.

-- A glance at an application after a try: whether the call is one of a grow-zone script, its line, the code of its reply,
-- and the application.
pub record Glance : Type 0 where
  pub grown : Bool
  pub line : Line
  pub code : OsErr
  pub after : Running

abbrev pub glance_of : Bool → Line → Tried → Glance
glance_of grown l t = record { grown = grown; line = l; code = code_told t.told; after = t.after }

-- The glances after the lines of a grow-zone script, in order; and of the script that is run for a call that found no room.
abbrev pub glances_grown : Blocks → List Line → Running → List Glance
glances_grown blocks [] r = []
glances_grown blocks (l ∷ script) r =
    glance_of true l (once blocks l.call r) ∷ glances_grown blocks script (once blocks l.call r).after

abbrev pub glances_for : Blocks → Line → Option ℕ → Running → List Glance
glances_for blocks l reading r = glances_grown blocks r.grow (marked_for true l.call reading r)

-- The glances of a try with the grow-zone script that is run for it; and of what follows a round, where the call is tried
-- again.
abbrev pub glances_try : Blocks → Line → Tried → List Glance
glances_try blocks l t = if t.wants then glance_of false l t ∷ glances_for blocks l t.reading t.after else []

abbrev pub glances_after : Round → (Running → List Glance) → List Glance
glances_after (Ends c) next = []
glances_after (Again c) next = next c.after

-- The glances of a step of at most so many rounds, and of a step.
abbrev pub glances_in : ℕ → Blocks → Line → Running → List Glance
glances_in zero blocks l r = []
glances_in (suc more) blocks l r =
    glances_try blocks l (once blocks l.call r) ++ glances_after (round blocks l r) (glances_in more blocks l)

abbrev pub glances : Blocks → Line → Running → List Glance
glances blocks l r = glances_in (most_rounds r) blocks l r

-- An application after a try, with the code of the try's reply: at a glance, and by the history.
pub record Sight : Type 0 where
  pub code : OsErr
  pub after : Running

abbrev pub sight_of : Glance → Sight
sight_of g = record { code = g.code; after = g.after }

abbrev pub sight_after : Event → Sight
sight_after e = record { code = code_told e.told; after = e.after }

-- What was seen is what the tries left, in order: of all of them, or of all but the last.
pub record AreSeen (tries seen : List Sight) : Type 0 where
  pub rest : List Sight
  pub whole : tries ≡ seen ++ rest
  pub few : length rest ≤ 1
