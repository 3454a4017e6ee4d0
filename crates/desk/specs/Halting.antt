use Rattle.std.specs.Prelude.{◌≡◌, ◌≢◌, ◌⊎◌, ℕ, ◌+◌, true, false, Option, Some, None, List, [], ◌∷◌, drop, length, map}
use Rattle.std.specs.Prelude.{slice_get, slice_set, zero, suc}
use Rattle.std.specs.List.{flat_map}
use Rattle.script_text.specs.Script.{ScriptParts}
use Rattle.script_text.specs.declared.script.Line.{Line}
use Rattle.script_text.specs.declared.job.Event.{Event}
use Rattle.script_text.specs.declared.job.Event.TheVariants as event
use Rattle.applications.specs.Step.{is_wait}
use Rattle.script_text.specs.declared.job.Act.{Act}
use Rattle.script_text.specs.declared.job.Act.TheVariants.{Step, Turn, Quit}
use Rattle.desk.specs.Outcome.{AppResult, Outcome, forks_of}
use Rattle.desk.specs.Phase.{Phase, Waiting, Running, Ended, Live, Next, GoesOn, Ends, stepped}
use Rattle.desk.specs.Desk.{Place, State, acted_at, after_event, after_events, longest, outcome_of, round, told}

-- The host may be out of memory in the midst of a run, which then stops. What counts is what was completed: launches,
-- steps and quits. A turn is its steps, and a rest is the turns of its rounds.

-- What the desk leaves that stops in a state: the log so far, without lines for forks, and what each application leaves
-- as it stands.
abbrev pub Halt : Type 0
Halt = List ℕ × List AppResult

abbrev pub halted : State → Halt
halted s = (s.log, map told s.places)

-- The property holds of the application that goes on.
abbrev pub Goes : (Live → Type 0) → Next → Type 0
Goes P (GoesOn live) = P live
Goes P (Ends launched left) = ⊥

-- The property holds of the application within a turn: before the turn's first step, or after one of its steps that is
-- not the last.
abbrev pub WithinTurn : (Live → Type 0) → List Line → ScriptParts → Live → Type 0
WithinTurn P [] script live = P live
WithinTurn P (l ∷ lines) script live =
    P live ⊎ ((is_wait l.call ≡ false) × Goes (WithinTurn P lines script) (stepped script live))

-- The same within an act. A step, and a quit, is done wholly or not at all.
abbrev pub WithinAct : (Live → Type 0) → Act → ScriptParts → Live → Type 0
WithinAct P Step script live = P live
WithinAct P Turn script live = WithinTurn P (drop live.steps script.steps) script live
WithinAct P Quit script live = P live

-- The property holds of the application's phase within an act; only an application that runs does anything.
abbrev pub WithinPhase : (Phase → Type 0) → Act → ScriptParts → Phase → Type 0
WithinPhase P act script (Waiting start) = P (Waiting start)
WithinPhase P act script (Running live) = WithinAct (λ m. P (Running m)) act script live
WithinPhase P act script (Ended launched) = P (Ended launched)

-- The property holds of an application's place within an act, and of all places within an act of application `i`.
abbrev pub WithinPlace : (Place → Type 0) → Act → Place → Type 0
WithinPlace P act p = WithinPhase (λ phase. P (record p { phase = phase })) act p.script p.phase

abbrev pub WithinOf : (List Place → Type 0) → Act → ℕ → Option Place → List Place → Type 0
WithinOf P act i None places = P places
WithinOf P act i (Some p) places = WithinPlace (λ q. P (slice_set places i q)) act p

abbrev pub WithinPlaces : (List Place → Type 0) → Act → ℕ → List Place → Type 0
WithinPlaces P act i places = WithinOf P act i (slice_get places i) places

-- The property holds of the desk within an act of application `i`.
abbrev pub WithinAt : (State → Type 0) → Act → ℕ → State → Type 0
WithinAt P act i s = WithinPlaces (λ places. P (record s { places = places })) act i s.places

-- The same within the turns of the `k` applications from `i` on, in order; within a round; and within one of at most so
-- many rounds.
abbrev pub WithinTurns : (State → Type 0) → ℕ → ℕ → State → Type 0
WithinTurns P zero i s = ⊥
WithinTurns P (suc k) i s = WithinAt P Turn i s ⊎ WithinTurns P k (i + 1) (acted_at Turn i s)

abbrev pub WithinRound : (State → Type 0) → State → Type 0
WithinRound P s = WithinTurns P (length s.places) 0 s

abbrev pub WithinRounds : (State → Type 0) → ℕ → State → Type 0
WithinRounds P zero s = ⊥
WithinRounds P (suc more) s = WithinRound P s ⊎ WithinRounds P more (round s)

-- The same within an event. A launch is done wholly or not at all.
abbrev pub WithinEvent : (State → Type 0) → Event → State → Type 0
WithinEvent P (event.Launch i) s = P s
WithinEvent P (event.Act i act) s = WithinAt P act i s
WithinEvent P event.Rest s = WithinRounds P (suc (longest s.places)) s

-- Some fork was written, so that the desk's log is to end with lines.
abbrev pub WroteForks : State → Type 0
WroteForks s = flat_map forks_of (map told s.places) ≢ []

-- The property holds of the desk where a run stops after so many completed events: within the next event, or, after the
-- last one, for the lines of the forks.
abbrev pub HaltsAfter : (State → Type 0) → ℕ → List Event → State → Type 0
HaltsAfter P zero [] s = P s × WroteForks s
HaltsAfter P zero (e ∷ events) s = WithinEvent P e s
HaltsAfter P (suc done) [] s = ⊥
HaltsAfter P (suc done) (e ∷ events) s = HaltsAfter P done events (after_event e s)

-- What a run leaves: what the desk leaves after all events; or it stopped after those that were completed, and leaves
-- what was completed of the next one too. Of a turn and of a rest that is what the numbers of the applications' steps say.
-- See decision 181 (a run that the host stops leaves what was completed).
abbrev pub IsLeft : Outcome → List Event → State → Type 0
IsLeft outcome events s =
    (outcome ≡ outcome_of (length events) (after_events events s))
    ⊎ ((outcome.stopped ≡ true)
    × HaltsAfter (λ m. halted m ≡ (outcome.log, outcome.apps)) outcome.done events s)
