use Rattle.std.specs.Prelude.{ℕ, ◌+◌, Bool, Option, Some, None, Result, Ok, Err, List, [], ◌∷◌, ◌++◌, map}
use Rattle.std.specs.Prelude.{length, max, slice_get, slice_set, if◌then◌else◌, zero, suc}
use Rattle.std.specs.List.{list_any}
use Rattle.memory_windows.specs.declared.Window.{Window}
use Rattle.memory_windows.specs.Windows.{put_in, taken_out}
use Rattle.mac_words.specs.declared.code.OsErr.{OsErr}
use Rattle.mac_words.specs.declared.code.TheConstants.OsErr.{MEM_FULL, PROFILE}
use Rattle.partitions.specs.Grant.{grant}
use Rattle.script_text.specs.Script.{ScriptParts}
use Rattle.script_text.specs.DeskLog.{launch_of, refusal_of, end_of}
use Rattle.script_text.specs.declared.job.Event.{Event}
use Rattle.script_text.specs.declared.job.Event.TheVariants as event
use Rattle.res_calls.specs.Files.{Resources}
use Rattle.script_text.specs.declared.job.Act.{Act}
use Rattle.script_text.specs.declared.job.Act.TheVariants.{Step, Turn, Quit}
use Rattle.desk.specs.Sizes.{Sizes, sizes_asked}
use Rattle.desk.specs.Phase.{Phase, Waiting, Running, Ended, Live, Left, Coming, begun, acted_by, runs, told_of}
use Rattle.desk.specs.Outcome.{AppResult, Outcome, outcome_told}

-- The desk: several applications in one memory, each in a window of its own. Inside Macintosh: Processes, chapter 1,
-- "Partitions" and "Scheduling of Processes".

-- An application's place at the desk: its name; the size of the partition that its launch asks for, if one was given;
-- its script; and the application as it waits, runs or has ended.
pub record Place : Type 0 where
  pub name : List ℕ
  pub size : Option ℕ
  pub script : ScriptParts
  pub phase : Phase

-- The memory's size, the windows in use, the applications in order, and the desk's log so far.
pub record State : Type 0 where
  pub memory : ℕ
  pub windows : List Window
  pub places : List Place
  pub log : List ℕ

-- What an application does.

-- How far an application comes by an act.
abbrev pub coming : Act → Place → Coming
coming act p = acted_by act p.script p.phase

-- The windows in use, without the one that an application leaves.
abbrev pub windows_after : Option Left → List Window → List Window
windows_after None windows = windows
windows_after (Some left) windows = taken_out left.window windows

-- The line of an application's end, if it ended.
abbrev pub end_told : List ℕ → Option Left → List ℕ
end_told name None = []
end_told name (Some left) = end_of name left.code.0

abbrev pub place_come : Place → Coming → Place
place_come p c = record p { phase = c.phase }

abbrev pub acted_in : Act → ℕ → Option Place → State → State
acted_in act i None s = s
acted_in act i (Some p) s = record s {
  windows = windows_after (coming act p).left s.windows;
  places = slice_set s.places i (place_come p (coming act p));
  log = s.log ++ end_told p.name (coming act p).left;
}

-- The desk after application `i` takes a step or a turn, or quits, if it runs.
abbrev pub acted_at : Act → ℕ → State → State
acted_at act i s = acted_in act i (slice_get s.places i) s

-- The list of places after an act of application `i`.
abbrev pub places_acted : Act → ℕ → Option Place → List Place → List Place
places_acted act i None places = places
places_acted act i (Some p) places = slice_set places i (place_come p (coming act p))

abbrev pub left_by : Act → Option Place → Option Left
left_by act None = None
left_by act (Some p) = (coming act p).left

-- A launch.

-- The application in the window that is granted, or -108 (memFullErr).
abbrev pub begun_in : Resources → Option Window → Result Live OsErr
begun_in resources None = Err MEM_FULL
begun_in resources (Some w) = Ok (begun resources w)

abbrev pub begun_with : Resources → Sizes → State → Result Live OsErr
begun_with resources sizes s = begun_in resources (grant s.memory s.windows sizes.preferred sizes.minimum)

-- The application in a partition of the size that was given for it, or of the sizes of its 'SIZE' -1.
abbrev pub begun_if : Option ℕ → Result Resources OsErr → State → Result Live OsErr
begun_if size (Err code) s = Err code
begun_if size (Ok resources) s = begun_with resources (sizes_asked size resources) s

-- The resources with which a waiting application is launched; -30001 (profileErr) for one that runs or has ended.
abbrev pub ready : Phase → Result Resources OsErr
ready (Waiting start) = start
ready (Running live) = Err PROFILE
ready (Ended launched) = Err PROFILE

-- The application as it is launched, or the result code for which it is not: it runs or has ended already, its fork
-- can't be opened, or there is no room.
-- See decision 106 (a launch is refused in a fixed order).
abbrev pub launch_answer : Place → State → Result Live OsErr
launch_answer p s = begun_if p.size (ready p.phase) s

abbrev pub launched_by : Result Live OsErr → ℕ → Place → State → State
launched_by (Err code) i p s = record s { log = s.log ++ refusal_of p.name code.0 }
launched_by (Ok live) i p s = record s {
  windows = put_in live.window s.windows;
  places = slice_set s.places i (record p { phase = Running live });
  log = s.log ++ launch_of p.name live.window.len;
}

abbrev pub launched_in : ℕ → Option Place → State → State
launched_in i None s = s
launched_in i (Some p) s = launched_by (launch_answer p s) i p s

-- The desk after a launch of application `i`; a refused launch changes only the log.
abbrev pub launched_at : ℕ → State → State
launched_at i s = launched_in i (slice_get s.places i) s

-- The size of the partition that a launch is granted, or the result code for which it is refused.
abbrev pub size_granted : Result Live OsErr → Result ℕ OsErr
size_granted (Err code) = Err code
size_granted (Ok live) = Ok live.window.len

-- The reply to a launch of application `i`; -30001 (profileErr) if there is no application of that number.
abbrev pub launch_reply : Option Place → State → Result ℕ OsErr
launch_reply None s = Err PROFILE
launch_reply (Some p) s = size_granted (launch_answer p s)

abbrev pub reply_at : ℕ → State → Result ℕ OsErr
reply_at i s = launch_reply (slice_get s.places i) s

-- Turns of all applications.

-- The desk after the `k` applications from `i` on take a turn each, in order.
abbrev pub each_turned : ℕ → ℕ → State → State
each_turned zero i s = s
each_turned (suc k) i s = each_turned k (i + 1) (acted_at Turn i s)

-- A round: each application takes a turn, if it runs.
abbrev pub round : State → State
round s = each_turned (length s.places) 0 s

abbrev pub any_runs : State → Bool
any_runs s = list_any (λ (p : Place). runs p.phase) s.places

-- Rounds until no application runs, at most the given number of them.
abbrev pub rounds : ℕ → State → State
rounds zero s = s
rounds (suc more) s = if any_runs s then rounds more (round s) else s

-- The number of steps of the longest script, or a number that is no smaller.
abbrev pub longest_or : ℕ → List Place → ℕ
longest_or most [] = most
longest_or most (p ∷ places) = longest_or (max most (length p.script.steps)) places

abbrev pub longest : List Place → ℕ
longest places = longest_or 0 places

-- A rest. No more rounds are needed: each round takes a step of each application that runs, and the step after an
-- application's last call is its quit.
-- See decision 110 (`rest` has a bound on its rounds).
abbrev pub rested : State → State
rested s = rounds (suc (longest s.places)) s

-- Events.

abbrev pub after_event : Event → State → State
after_event (event.Launch i) s = launched_at i s
after_event (event.Act i act) s = acted_at act i s
after_event event.Rest s = rested s

abbrev pub after_events : List Event → State → State
after_events [] s = s
after_events (e ∷ events) s = after_events events (after_event e s)

-- What a run leaves.

abbrev pub told : Place → AppResult
told p = record { name = p.name; launched = told_of p.phase }

-- What a run leaves after so many events, all of which were completed.
abbrev pub outcome_of : ℕ → State → Outcome
outcome_of done s = outcome_told done s.log (map told s.places)
