use Rattle.std.specs.Prelude.{Bool, true, false, Option, Some, None, option_map, Result, List, map}
use Rattle.mac_words.specs.declared.code.OsErr.{OsErr}
use Rattle.fork_format.specs.View.{view}
use Rattle.res_calls.specs.Files.{Resources}
use Rattle.desk.specs.declared.departure.Departure.{Departure}
use Rattle.desk.specs.declared.outcome.AppOutcome.{AppOutcome}
use Rattle.desk.specs.declared.outcome.Outcome as declared
use Rattle.desk.specs.declared.seat.Phase as declared_phase
use Rattle.desk.specs.declared.seat.Phase.TheVariants as phase
use Rattle.desk.specs.declared.seat.Seat.{Seat}
use Rattle.desk.specs.Phase.{Phase, Waiting, Running, Ended, Left}
use Rattle.desk.specs.Desk.{Place, State}
use Rattle.desk.specs.Job.{start_of}
use Rattle.desk.specs.Outcome.{AppResult, Outcome}
use Rattle.desk.specs.Live.{Lot, lot_of_live, live_seen, leaves_seen}

-- What the desk's fields stand for.

-- What a phase stands for, by what the application is launched with.
abbrev pub phase_seen : {S : Type 0} → Result Resources OsErr → declared_phase.Phase S → Phase
phase_seen start phase.Waiting = Waiting start
phase_seen start (phase.Running live) = Running (live_seen live)
phase_seen start (phase.Ended l) = Ended (leaves_seen l)

abbrev pub is_waiting : {S : Type 0} → declared_phase.Phase S → Bool
is_waiting phase.Waiting = true
is_waiting (phase.Running live) = false
is_waiting (phase.Ended l) = false

abbrev pub place_seen : {S : Type 0} → Seat S → Place
place_seen seat = record {
  name = seat.app.now.name.0.items;
  size = seat.app.now.size;
  script = seat.app.now.script;
  phase = phase_seen (start_of (view seat.system.content.now) seat.app.now) seat.phase;
}

abbrev pub seen : {S : Type 0} → List (Seat S) → List Place
seen seats = map place_seen seats

-- The windows of applications, and where the stores of their zones lie.
abbrev pub lot_of : {S : Type 0} → declared_phase.Phase S → Option Lot
lot_of phase.Waiting = None
lot_of (phase.Running live) = Some (lot_of_live live)
lot_of (phase.Ended l) = None

abbrev pub lots : {S : Type 0} → List (Seat S) → List (Option Lot)
lots seats = map (λ seat. lot_of seat.phase) seats

-- A desk: its state, and the maker of its zones.
pub record DeskSeen (Z : Type 0) : Type 0 where
  pub state : State
  pub zones : Z

-- What an application leaves as it ends.
abbrev pub left_of : {S : Type 0} → Departure S → Left
left_of d = record { window = d.window; code = d.code }

-- What applications leave, and what a run leaves.
abbrev pub told_seen : AppOutcome → AppResult
told_seen a = record { name = a.name.0.items; launched = option_map leaves_seen a.launched }

abbrev pub outcome_seen : declared.Outcome → Outcome
outcome_seen o = record {
  done = o.done;
  log = o.desk.items;
  apps = map told_seen o.apps.items;
  stopped = o.stopped;
}
