use Rattle.std.specs.Prelude.{ℕ, ◌+◌, Bool, true, false, Option, Some, None, Result, List, [], ◌∷◌, ◌++◌, drop, length}
use Rattle.std.specs.Prelude.{slice_get, if◌then◌else◌}
use Rattle.memory_windows.specs.declared.Window.{Window}
use Rattle.mac_words.specs.declared.code.OsErr.{OsErr}
use Rattle.script_text.specs.Script.{ScriptParts}
use Rattle.script_text.specs.Transcript.{launch_line, end_line}
use Rattle.script_text.specs.declared.script.Line.{Line}
use Rattle.res_calls.specs.Files.{Resources}
use Rattle.applications.specs.Trying as application
use Rattle.applications.specs.Trying.{launched_with, nowhere}
use Rattle.applications.specs.Step.{Course, step, is_wait}
use Rattle.applications.specs.Application.{lines_told}
use Rattle.applications.specs.Alone.{Ending, quits, ended_by}
use Rattle.script_text.specs.declared.job.Act.{Act}
use Rattle.script_text.specs.declared.job.Act.TheVariants.{Step, Turn, Quit}
use Rattle.desk.specs.Outcome.{Launched}

-- An application at the desk, and what a step, a turn and a quit make of it. Inside Macintosh: Processes, chapter 1,
-- "Scheduling of Processes", and chapter 2, "Launching Applications" and "Terminating a Process".

-- An application that runs: its partition's window; the number of steps that it took; its transcript so far; and its own
-- state. The place of the partition has no part in the state, whose memory lies nowhere.
pub record Live : Type 0 where
  pub window : Window
  pub steps : ℕ
  pub transcript : List ℕ
  pub state : application.Running

-- An application waits for its launch, with the resources with which it is launched or the result code for which its
-- fork can't be opened; or it runs; or it has ended, and this is what it left.
-- See decision 103 (the desk keeps the state of each application).
pub data Phase : Type 0 where
  Waiting : (start : Result Resources OsErr) → Phase
  Running : (live : Live) → Phase
  Ended : (launched : Launched) → Phase

-- What an application gives back as it ends: its window, and the result code of its end.
pub record Left : Type 0 where
  pub window : Window
  pub code : OsErr

-- What follows an act of an application that runs: it goes on, or it ends.
pub data Next : Type 0 where
  GoesOn : (live : Live) → Next
  Ends : (launched : Launched) → (left : Left) → Next

-- An application as it is launched in a window.
abbrev pub begun : Resources → Window → Live
begun resources w = record {
  window = w;
  steps = 0;
  transcript = launch_line w.len;
  state = launched_with resources w.len nowhere;
}

-- What an application leaves as it stands.
abbrev pub leaves : Bool → Live → Launched
leaves asked live = record {
  size = live.window.len;
  steps = live.steps;
  asked = asked;
  transcript = live.transcript;
  files = live.state.resources.files;
}

-- An application ends: the line of the end is the last of its transcript, and its files are as the end leaves them.
abbrev pub ends : Bool → Ending → Live → Next
ends asked end live = Ends
    (record {
      size = live.window.len;
      steps = live.steps;
      asked = asked;
      transcript = live.transcript ++ end_line end.code.0;
      files = end.files;
    })
    (record { window = live.window; code = end.code })

-- The application after the course of one step more.
abbrev pub after_course : Course → Live → Live
after_course c live = record live {
  steps = live.steps + 1;
  transcript = live.transcript ++ lines_told c.lines;
  state = c.after;
}

-- What follows a call: the application goes on, or the call was its last.
abbrev pub called : Course → Live → Next
called c live = if c.over then ends false (ended_by c) (after_course c live) else GoesOn (after_course c live)

-- A step past the last call is a quit, and counts as a step.
-- See decision 80 (a step with no call left is a quit, and counts as a step).
abbrev pub run_out : ScriptParts → Live → Next
run_out script live = ends false (quits live.state) (record live { steps = length script.steps + 1 })

-- A step: the call of the next line, tried in the application's own state; or a quit if no line is left.
abbrev pub step_of : Option Line → ScriptParts → Live → Next
step_of None script live = run_out script live
step_of (Some l) script live = called (step script.blocks l live.state) live

abbrev pub stepped : ScriptParts → Live → Next
stepped script live = step_of (slice_get script.steps live.steps) script live

-- A quit that is asked for.
abbrev pub quitted : Live → Next
quitted live = ends true (quits live.state) live

-- What follows, where the application goes on.
abbrev pub and_then : Next → (Live → Next) → Next
and_then (GoesOn live) more = more live
and_then (Ends launched left) more = Ends launched left

-- A turn: steps up to and including the next WaitNextEvent, or to the end.
-- See decision 83 (a turn is the steps up to and including the next `WaitNextEvent`).
abbrev pub turn_through : List Line → ScriptParts → Live → Next
turn_through [] script live = stepped script live
turn_through (l ∷ lines) script live =
    if is_wait l.call then stepped script live else and_then (stepped script live) (turn_through lines script)

abbrev pub turned : ScriptParts → Live → Next
turned script live = turn_through (drop live.steps script.steps) script live

-- What an application does, or is made to do.
abbrev pub acted : Act → ScriptParts → Live → Next
acted Step script live = stepped script live
acted Turn script live = turned script live
acted Quit script live = quitted live

abbrev pub is_quit : Act → Bool
is_quit Step = false
is_quit Turn = false
is_quit Quit = true

-- How far an application comes by an act, and what it gives back if it ends.
pub record Coming : Type 0 where
  pub phase : Phase
  pub left : Option Left

-- An application that stays as it is.
abbrev pub staying : Phase → Coming
staying phase = record { phase = phase; left = None }

abbrev pub come_by : Next → Coming
come_by (GoesOn live) = staying (Running live)
come_by (Ends launched left) = record { phase = Ended launched; left = Some left }

-- Only an application that runs does anything.
abbrev pub acted_by : Act → ScriptParts → Phase → Coming
acted_by act script (Waiting start) = staying (Waiting start)
acted_by act script (Running live) = come_by (acted act script live)
acted_by act script (Ended launched) = staying (Ended launched)

-- The window in which an application's zone is open.
abbrev pub window_of : Phase → Option Window
window_of (Waiting start) = None
window_of (Running live) = Some live.window
window_of (Ended launched) = None

abbrev pub runs : Phase → Bool
runs (Waiting start) = false
runs (Running live) = true
runs (Ended launched) = false

abbrev pub waits : Phase → Bool
waits (Waiting start) = true
waits (Running live) = false
waits (Ended launched) = false

-- What an application leaves; nothing if it was not launched.
abbrev pub told_of : Phase → Option Launched
told_of (Waiting start) = None
told_of (Running live) = Some (leaves false live)
told_of (Ended launched) = Some launched
