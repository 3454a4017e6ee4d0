use Rattle.applications.proofs.Cited.{◌≡◌, ℕ, Bool, true, false, Option, Some, None, refl, map, List, [], ◌∷◌, is_some, Label, MEM_FULL}
use Rattle.applications.proofs.Cited.{WRONG_ZONE, LOCKED, ControlCall, HeapCall, Told, Done, Given, Number, Code, Refused, locked_place}
use Rattle.applications.proofs.Cited.{Line, ScriptParts, Shown, LineEnd, launched, nowhere, report, reports, steps_taken, run_alone}
use Rattle.mac_words.specs.declared.call.Call.TheVariants as call
use Rattle.mac_words.specs.declared.call.ControlCall.TheVariants as control
use Rattle.mac_words.specs.declared.call.HeapCall.TheVariants as heap

-- Worked examples of grow-zone scripts, in a partition of 1,024 bytes, and of what a watch hears.

-- a name of one letter
abbrev letter : ℕ → Label
letter c = record { 0 = record { items = c ∷ [] } }

abbrev a : Label
a = letter 97

abbrev b : Label
b = letter 98

abbrev c : Label
c = letter 99

-- a reserve, and the grow-zone script
abbrev r : Label
r = letter 114

abbrev g : Label
g = letter 103

-- a line of a script
abbrev at : ℕ → HeapCall → Line
at n asked = record { number = n; call = call.Heap asked }

abbrev control_at : ℕ → ControlCall → Line
control_at n asked = record { number = n; call = call.Control asked }

abbrev set_grow_zone : ℕ → Line
set_grow_zone n = control_at n (control.SetGrowZone g)

-- a script of these steps, with one grow-zone script
abbrev with_grown : List Line → List Line → ScriptParts
with_grown grown steps = record { steps = steps; blocks = (103 ∷ [], grown) ∷ [] }

-- a line of the transcript: whether it is a grow-zone script's, the number of its call, and what that told
abbrev line_seen : Shown → Bool × ℕ × Told
line_seen s = (s.grown, s.line.number, s.told)

abbrev lines_seen : ScriptParts → List (Bool × ℕ × Told)
lines_seen script = map line_seen (run_alone 1024 script).lines

-- the reserve makes room once; asked again the grow-zone script makes none, and the answer stands with its code
room_is_made_once : lines_seen (with_grown (at 2 (heap.DisposeHandle r) ∷ [])
    (set_grow_zone 4 ∷ at 5 (heap.NewHandle r 400) ∷ at 6 (heap.NewHandle a 300) ∷ at 7 (heap.NewHandle b 200)
    ∷ at 8 (heap.Where b) ∷ at 9 (heap.NewHandle c 500) ∷ at 10 heap.MemError ∷ []))
    ≡ (false, 4, Done) ∷ (false, 5, Given 0) ∷ (false, 6, Given 1) ∷ (true, 2, Done) ∷ (false, 7, Given 2)
    ∷ (false, 8, Number 288) ∷ (true, 2, Refused WRONG_ZONE) ∷ (false, 9, Refused MEM_FULL)
    ∷ (false, 10, Code MEM_FULL) ∷ []
room_is_made_once = refl

-- the handle that the waiting call names can't be purged
the_named_handle_is_busy : lines_seen (with_grown (at 2 (heap.EmptyHandle a) ∷ [])
    (set_grow_zone 4 ∷ at 5 (heap.NewHandle a 300) ∷ at 6 (heap.NewHandle b 300) ∷ at 7 (heap.SetHandleSize a 700)
    ∷ at 8 (heap.GetHandleSize a) ∷ []))
    ≡ (false, 4, Done) ∷ (false, 5, Given 0) ∷ (false, 6, Given 1) ∷ (true, 2, Refused LOCKED)
    ∷ (false, 7, Refused MEM_FULL) ∷ (false, 8, Number 300) ∷ []
the_named_handle_is_busy = refl

-- no line comes behind the end of the application
nothing_follows_the_end : lines_seen (with_grown [] (control_at 1 control.WaitNextEvent
    ∷ control_at 2 control.ExitToShell ∷ at 3 heap.FreeMem ∷ []))
    ≡ (false, 1, Done) ∷ (false, 2, Done) ∷ []
nothing_follows_the_end = refl

-- the end of a line: where the locked block of the first handle stands, and whether the line has a try of its own
abbrev end_seen : LineEnd → Option ℕ × Bool
end_seen e = (locked_place 0 e.heap.zone, is_some e.try)

abbrev ends_seen : ScriptParts → List (Option ℕ × Bool)
ends_seen script = map end_seen (run_alone 1024 script).line_ends

-- a locked block stands while a call finds no room, and until its handle is unlocked; the call whose answer stands has
-- a line without a try of its own
a_locked_block_stands : ends_seen (with_grown (at 2 (heap.DisposeHandle r) ∷ [])
    (set_grow_zone 4 ∷ at 5 (heap.NewHandle a 100) ∷ at 6 (heap.HLock a) ∷ at 7 (heap.NewHandle r 100)
    ∷ at 8 (heap.NewHandle b 900) ∷ at 9 (heap.HUnlock a) ∷ []))
    ≡ (None, true) ∷ (None, true) ∷ (Some 272, true) ∷ (Some 272, true) ∷ (Some 272, true) ∷ (Some 272, true)
    ∷ (Some 272, false) ∷ (None, true) ∷ []
a_locked_block_stands = refl

-- each of a few steps is reported, and each third of 250, and the last
a_few_steps_are_reported : reports 3 3 ≡ 1 ∷ 2 ∷ 3 ∷ []
a_few_steps_are_reported = refl

each_third_step_is_reported : reports 7 250 ≡ 3 ∷ 6 ∷ []
each_third_step_is_reported = refl

the_last_step_is_reported : report 250 250 ≡ 250 ∷ []
the_last_step_is_reported = refl

-- a run takes the steps up to the one that ends the application
a_run_ends_with_its_application : steps_taken [] (control_at 1 control.WaitNextEvent ∷ control_at 2 control.ExitToShell
    ∷ at 3 heap.FreeMem ∷ []) (launched 1024 nowhere) ≡ 2
a_run_ends_with_its_application = refl
