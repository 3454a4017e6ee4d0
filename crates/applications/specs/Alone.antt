use Rattle.std.specs.Prelude.{ℕ, ◌+◌, ◌||◌, Bool, false, Option, Some, None, List, [], ◌++◌, length, take, nat_lt}
use Rattle.std.specs.Prelude.{if◌then◌else◌}
use Rattle.mac_words.specs.declared.code.OsErr.{OsErr}
use Rattle.mac_words.specs.declared.code.TheConstants.OsErr.{SYSTEM_ERROR}
use Rattle.heap_calls.specs.State.{State}
use Rattle.script_text.specs.Script.{ScriptParts}
use Rattle.script_text.specs.Transcript.{launch_line, end_line}
use Rattle.res_calls.specs.Files.{File, Resources}
use Rattle.res_calls.specs.Leaving.{leave}
use Rattle.applications.specs.Trying.{Running, launched, launched_with, own_resources, nowhere, last_code, is_fatal}
use Rattle.applications.specs.Trying.{managers_of}
use Rattle.applications.specs.Step.{Course, course_of}
use Rattle.applications.specs.Application.{lines_told}

-- What an application leaves when it runs alone, given its resources, its script, and the size of its partition. No
-- other application and no place in a memory has a part in it. Inside Macintosh: Processes, chapter 2, "Launching
-- Applications" and "Terminating a Process".

-- The course of a whole script, run by an application that is only that script.
abbrev pub run_alone : ℕ → ScriptParts → Course
run_alone size script = course_of script.blocks script.steps (launched size nowhere)

-- The end of an application: its code, and its files as they are left.
pub record Ending : Type 0 where
  pub code : OsErr
  pub files : List File

-- The end of an application that quits: its files are updated and closed.
abbrev pub quits : Running → Ending
quits r = record { code = (leave (managers_of r)).code; files = (leave (managers_of r)).after.resources.files }

-- The application after it has quit.
abbrev pub has_quit : Running → Running
has_quit r = record r {
  memory = (leave (managers_of r)).after.memory;
  resources = (leave (managers_of r)).after.resources;
}

-- The end of an application that a system error stops: no file is updated.
-- See decision 77 (system error 15 ends the application with its own line).
abbrev pub stops : Running → Ending
stops r = record { code = SYSTEM_ERROR; files = r.resources.files }

-- The end of an application whose last call ended it, by a system error or by quitting.
abbrev pub ended_by : Course → Ending
ended_by c = if is_fatal (last_code c.told) then stops c.after else quits c.after

-- The end of an application after a course, where the application ended: by a call of its own, or because a quit was
-- asked for.
abbrev pub ending_of : Bool → Course → Option Ending
ending_of asked c = if c.over then Some (ended_by c) else if asked then Some (quits c.after) else None

-- The application after that end, or as it stands where it goes on.
abbrev pub left_after : Bool → Course → Running
left_after asked c =
    if c.over then (if is_fatal (last_code c.told) then c.after else has_quit c.after)
    else (if asked then has_quit c.after else c.after)

-- The first `n` steps of a script, in a fresh partition of `size` bytes.
abbrev pub first_steps : Resources → ℕ → ScriptParts → ℕ → Course
first_steps resources size script n = course_of script.blocks (take n script.steps)
    (launched_with resources size nowhere)

-- The end of an application after `n` steps, where it ended. A step past the last line is a quit, and a quit may be
-- asked for as well.
abbrev pub ending : Resources → ℕ → ScriptParts → ℕ → Bool → Option Ending
ending resources size script n quit =
    ending_of (nat_lt (length script.steps) n || quit) (first_steps resources size script n)

-- The line of the end, where the application ended.
abbrev pub end_told : Option Ending → List ℕ
end_told None = []
end_told (Some e) = end_line e.code.0

-- The files as the end of the application left them, or as they stand where it goes on.
abbrev pub files_after : Option Ending → Running → List File
files_after None r = r.resources.files
files_after (Some e) r = e.files

-- What an application leaves when it runs alone: its transcript, and its files as they were left.
-- See decision 79 (an application alone is its first n steps and its end).
pub record Alone : Type 0 where
  pub transcript : List ℕ
  pub files : List File

-- What an application with these resources leaves when it runs alone, after `n` steps of its script in a partition of
-- `size` bytes, and after a quit where `quit` asks for one.
abbrev pub alone : Resources → ℕ → ScriptParts → ℕ → Bool → Alone
alone resources size script n quit = record {
  transcript = launch_line size ++ lines_told (first_steps resources size script n).lines
      ++ end_told (ending resources size script n quit);
  files =
      files_after (ending resources size script n quit) (first_steps resources size script n).after;
}

-- The heap of that application, as its end left the heap where it ended.
abbrev pub heap_alone : Resources → ℕ → ScriptParts → ℕ → Bool → State
heap_alone resources size script n quit =
    (left_after (nat_lt (length script.steps) n || quit) (first_steps resources size script n)).memory.heap

-- What an application leaves that takes all its steps, and the step past the last line, which is a quit.
abbrev pub to_its_end : Resources → ℕ → ScriptParts → Alone
to_its_end resources size script = alone resources size script (length script.steps + 1) false

-- What an application leaves that is only a script: its fork and the System file have no resources, and it has no other
-- files.
abbrev pub script_alone : ℕ → ScriptParts → Alone
script_alone size script = to_its_end own_resources size script

-- The heap of that application, as its end left the heap.
-- See decision 101 (a script ends with its quit).
abbrev pub script_heap : ℕ → ScriptParts → State
script_heap size script = heap_alone own_resources size script (length script.steps + 1) false
