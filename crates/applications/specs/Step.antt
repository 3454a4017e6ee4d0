use Rattle.std.specs.Prelude.{◌≡◌, ℕ, ◌+◌, Bool, true, false, Option, Some, None, List, [], ◌∷◌, ◌++◌, nat_lt, zero, suc}
use Rattle.std.specs.Prelude.{if◌then◌else◌}
use Rattle.mac_words.specs.declared.code.OsErr.{OsErr}
use Rattle.mac_words.specs.declared.call.Call.{Call}
use Rattle.mac_words.specs.declared.call.Call.TheVariants as call
use Rattle.mac_words.specs.declared.call.ControlCall.{ControlCall}
use Rattle.mac_words.specs.declared.call.ControlCall.TheVariants as control
use Rattle.mac_words.specs.declared.segment_call.SegmentCall.{SegmentCall}
use Rattle.mac_words.specs.declared.call.HeapCall.TheVariants as heap
use Rattle.mac_words.specs.declared.resource_call.ResourceCall.TheVariants as resource
use Rattle.block_store.specs.Block.{sizes}
use Rattle.heap_calls.specs.State.{State, Memory}
use Rattle.mac_words.specs.Told.{Told, Given, Fetched}
use Rattle.heap_calls.specs.Table.{Asked}
use Rattle.heap_calls.specs.Busy.{busied, eased, with_busy, keep_code}
use Rattle.heap_calls.specs.Table.{first_named, second_named}
use Rattle.heap_calls.specs.Staying.{ease}
use Rattle.res_calls.specs.Fetch.{Reads}
use Rattle.res_calls.specs.Asked.{ResourceAsked, named}
use Rattle.script_text.specs.declared.script.Line.{Line}
use Rattle.applications.specs.Names.{Bindings, bind}
use Rattle.applications.specs.Trying.{Running, Blocks, Tried, once, asked, resource_asked, code_told}

-- A step of an application. The next call is tried. Where the call finds no room, the lines of the grow-zone script are
-- run, while the handles and pointers that the call names are busy; where the script made room, the whole call is tried
-- again, and otherwise its answer stands. Inside Macintosh: Memory, chapter 1, "Grow-Zone Functions", and chapter 2,
-- "Setting the Grow-Zone Function".

-- A call with the numbers that its names are bound to.
pub data Deed : Type 0 where
  Ask : (asked : Asked) → Deed
  Find : (asked : ResourceAsked) → Deed
  Jump : (call : SegmentCall) → Deed
  Steer : (control : ControlCall) → Deed

abbrev pub deed_of : Call → Bindings → Deed
deed_of (call.Heap c) names = Ask (asked c names)
deed_of (call.Resource c) names = Find (resource_asked c names)
deed_of (call.Segment c) names = Jump c
deed_of (call.Control c) names = Steer c

-- A try in the history of a run: the call, its reply, what it read, and the application before and after the try.
-- See decision 90 (a history has an entry for each try).
pub record Event : Type 0 where
  pub deed : Deed
  pub told : Told
  pub reads : Reads
  pub before : Running
  pub after : Running

-- A line of a transcript: whether its call is one of a grow-zone script, its call, and the reply of the call.
pub record Shown : Type 0 where
  pub grown : Bool
  pub line : Line
  pub told : Told

-- The end of a line of a transcript: the try whose reply the line reports, and the heap after the line. A call whose
-- answer stands after its grow-zone script has a line without a try of its own.
pub record LineEnd : Type 0 where
  pub try : Option Event
  pub heap : State

-- The course of some calls: their tries in order, the lines of the transcript and the end of each line, the reply of
-- the last call, or None where there is no call, whether the application ends there, and the application after the
-- calls.
pub record Course : Type 0 where
  pub events : List Event
  pub lines : List Shown
  pub line_ends : List LineEnd
  pub told : Option Told
  pub over : Bool
  pub after : Running

-- The course of no calls.
abbrev pub nothing_yet : Running → Course
nothing_yet r = record { events = []; lines = []; line_ends = []; told = None; over = false; after = r }

-- A course followed by a course that begins where the first ended.
abbrev pub joined : Course → Course → Course
joined c d = record {
  events = c.events ++ d.events;
  lines = c.lines ++ d.lines;
  line_ends = c.line_ends ++ d.line_ends;
  told = d.told;
  over = d.over;
  after = d.after;
}

-- A try as the history keeps it.
-- See decision 92 (what a try read stands in its entry of the history).
abbrev pub event_of : Line → Running → Tried → Event
event_of l r t = record {
  deed = deed_of l.call r.names;
  told = t.told;
  reads = t.reads;
  before = r;
  after = t.after;
}

-- The memory where a number is busy, or idle again; an unbound name changes nothing.
abbrev pub marked : Bool → Option ℕ → Memory → Memory
marked busy None m = m
marked true (Some n) m = with_busy (busied n m.log.busy) m
marked false (Some n) m = with_busy (eased n m.log.busy) m

-- The application where all handles and pointers that a call names, and the empty handle that it would have read again,
-- are busy, or idle again.
abbrev pub marked_for : Bool → Call → Option ℕ → Running → Running
marked_for busy (call.Control c) reading r = r
marked_for busy (call.Segment c) reading r = record r { memory = marked busy reading r.memory }
marked_for busy (call.Resource c) reading r = record r {
  memory = marked busy reading (marked busy (named (resource_asked c r.names)) r.memory);
}
marked_for busy (call.Heap c) reading r = record r {
  memory = marked busy reading
      (marked busy (second_named (asked c r.names)) (marked busy (first_named (asked c r.names)) r.memory));
}

-- The course of one line of a grow-zone script.
abbrev pub grown_line : Line → Running → Tried → Course
grown_line l r t = record {
  events = event_of l r t ∷ [];
  lines = record { grown = true; line = l; told = t.told } ∷ [];
  line_ends = record { try = Some (event_of l r t); heap = t.after.memory.heap } ∷ [];
  told = Some t.told;
  over = t.over;
  after = t.after;
}

-- The course of the lines of a grow-zone script, in order.
abbrev pub grown : Blocks → List Line → Running → Course
grown blocks [] r = nothing_yet r
grown blocks (l ∷ script) r = joined (grown_line l r (once blocks l.call r))
    (grown blocks script (once blocks l.call r).after)

-- The course of the grow-zone script, while the handles and pointers that the call names are busy.
abbrev pub grown_for : Blocks → Line → Option ℕ → Running → Course
grown_for blocks l reading r = record course { after = marked_for false l.call reading course.after }
  where
    course : Course
    course = grown blocks r.grow (marked_for true l.call reading r)

-- The course of a try that found no room, and of the grow-zone script that is run for it.
abbrev pub asked_for : Blocks → Line → Running → Tried → Course
asked_for blocks l r t = joined tried (grown_for blocks l t.reading t.after)
  where
    tried : Course
    tried = record {
      events = event_of l r t ∷ [];
      lines = [];
      line_ends = [];
      told = Some t.told;
      over = t.over;
      after = t.after;
    }

-- The number in a reply to which a name is bound.
abbrev pub number_given : Told → Option ℕ
number_given (Given n) = Some n
number_given (Fetched handle read) = Some handle
number_given told = None

-- The names after a call whose reply has the given number, or no number: the name is bound that the call binds.
-- See decision 88 (names are bound after the last round).
abbrev pub names_given : Call → Option ℕ → Bindings → Bindings
names_given c None names = names
names_given (call.Heap (heap.NewHandle name size)) (Some n) names = bind name.0.items n names
names_given (call.Heap (heap.NewEmptyHandle name)) (Some n) names = bind name.0.items n names
names_given (call.Heap (heap.HandToHand name from)) (Some n) names = bind name.0.items n names
names_given (call.Heap (heap.PtrToHand name bytes)) (Some n) names = bind name.0.items n names
names_given (call.Heap (heap.RecoverHandle name place)) (Some n) names = bind name.0.items n names
names_given (call.Heap (heap.NewPtr name size)) (Some n) names = bind name.0.items n names
names_given (call.Resource (resource.GetResource name ty id)) (Some n) names = bind name.0.items n names
names_given (call.Resource (resource.Get1Resource name ty id)) (Some n) names = bind name.0.items n names
names_given (call.Resource (resource.GetNamedResource name ty text)) (Some n) names = bind name.0.items n names
names_given (call.Resource (resource.Get1NamedResource name ty text)) (Some n) names = bind name.0.items n names
names_given (call.Resource (resource.GetIndResource name ty index)) (Some n) names = bind name.0.items n names
names_given (call.Resource (resource.Get1IndResource name ty index)) (Some n) names = bind name.0.items n names
names_given c (Some n) names = names

-- The application where the manager of a call has the code of the call again, after the codes of the grow-zone script's
-- calls.
-- See decision 89 (the code of a call whose answer stands is set again).
abbrev pub kept_anew : Call → OsErr → Running → Running
kept_anew (call.Heap c) code r = record r { memory = keep_code code r.memory }
kept_anew (call.Resource c) code r = record r { resources = record r.resources { error = code } }
kept_anew (call.Segment c) code r = r
kept_anew (call.Control c) code r = r

-- The course of a call that ends with its try: the line of the call is written, and its name is bound.
abbrev pub ended : Line → Running → Tried → Course
ended l r t = record {
  events = event_of l r t ∷ [];
  lines = record { grown = false; line = l; told = t.told } ∷ [];
  line_ends = record { try = Some (event_of l r t); heap = t.after.memory.heap } ∷ [];
  told = Some t.told;
  over = t.over;
  after = record t.after { names = names_given l.call (number_given t.told) t.after.names };
}

-- The course of a call whose answer stands although its grow-zone script was run.
abbrev pub stands : Line → Tried → Running → Course
stands l t r = record {
  events = [];
  lines = record { grown = false; line = l; told = t.told } ∷ [];
  line_ends = record { try = None; heap = r.memory.heap } ∷ [];
  told = Some t.told;
  over = t.over;
  after = kept_anew l.call (code_told t.told) r;
}

-- A round: a try with its grow-zone script, after which the call ends or is tried again.
pub data Round : Type 0 where
  Ends : (course : Course) → Round
  Again : (course : Course) → Round

-- Holds where more bytes are free or purgeable after the grow-zone script than before it.
-- See decision 86 (more room is measured from the refused try on).
abbrev pub made_room : Tried → Course → Bool
made_room t came = nat_lt (ease t.after.memory.heap.zone) (ease came.after.memory.heap.zone)

-- The round of a try that found no room; of any try; and of a call.
abbrev pub after_asking : Line → Tried → Course → Round
after_asking l t came = if made_room t came then Again came else Ends (joined came (stands l t came.after))

abbrev pub after_try : Blocks → Line → Running → Tried → Round
after_try blocks l r t = if t.wants then after_asking l t (asked_for blocks l r t) else Ends (ended l r t)

abbrev pub round : Blocks → Line → Running → Round
round blocks l r = after_try blocks l r (once blocks l.call r)

-- The course of a round, and of what follows where the call is tried again.
abbrev pub continued : Round → (Running → Course) → Course
continued (Ends c) next = c
continued (Again c) next = joined c (next c.after)

-- The course of a step of at most the given number of rounds.
-- See decision 84 (a step has a bound, which is never met).
abbrev pub step_in : ℕ → Blocks → Line → Running → Course
step_in zero blocks l r = nothing_yet r
step_in (suc more) blocks l r = continued (round blocks l r) (step_in more blocks l)

-- The greatest number of rounds of a step, and the step. Each further round takes some of the zone's bytes that could
-- not be had before, so no step has more rounds.
abbrev pub most_rounds : Running → ℕ
most_rounds r = sizes r.memory.heap.zone + 1

abbrev pub step : Blocks → Line → Running → Course
step blocks l r = step_in (most_rounds r) blocks l r

-- The step by its rule, without a bound.
abbrev pub step_by_rule : Blocks → Line → Running → Course
step_by_rule blocks l r = continued (round blocks l r) (step blocks l)

-- The course of a step and of what follows; nothing follows where the application ended with the step.
abbrev pub unless_over : Course → (Running → Course) → Course
unless_over c next = if c.over then c else joined c (next c.after)

-- The course of steps in order, to the last line or to the end of the application.
abbrev pub course_of : Blocks → List Line → Running → Course
course_of blocks [] r = nothing_yet r
course_of blocks (l ∷ lines) r = unless_over (step blocks l r) (course_of blocks lines)

-- Two courses are alike: they differ at most in the last reply, and only where the application goes on.
pub record AlikeCourses (c d : Course) : Type 0 where
  pub events : c.events ≡ d.events
  pub lines : c.lines ≡ d.lines
  pub line_ends : c.line_ends ≡ d.line_ends
  pub over : c.over ≡ d.over
  pub told : d.over ≡ true → c.told ≡ d.told
  pub after : c.after ≡ d.after

-- Holds of a call that ends a turn.
abbrev pub is_wait : Call → Bool
is_wait (call.Control control.WaitNextEvent) = true
is_wait c = false

-- The lines up to and including the first that ends a turn.
-- See decision 83 (a turn is the steps up to and including the next `WaitNextEvent`).
abbrev pub up_to_wait : List Line → List Line
up_to_wait [] = []
up_to_wait (l ∷ lines) = if is_wait l.call then l ∷ [] else l ∷ up_to_wait lines

-- The course of a turn: the steps up to and including the next WaitNextEvent, or to the last line.
abbrev pub turn : Blocks → List Line → Running → Course
turn blocks lines r = course_of blocks (up_to_wait lines) r
