use Rattle.std.specs.Prelude.{ℕ, Result, Ok, Err, List, [], ◌∷◌}
use Rattle.memory_windows.specs.declared.Window.{Window}
use Rattle.mac_words.specs.declared.code.OsErr.{OsErr}
use Rattle.fork_format.specs.Content.{Content}
use Rattle.block_store.specs.Block.{Block}
use Rattle.block_store.specs.Slot.{Slot}
use Rattle.script_text.specs.declared.job.Event.{Event}
use Rattle.heap_calls.specs.State.{State as Heap}
use Rattle.heap_calls.specs.Stored.{IsStored}
use Rattle.zone_bytes.specs.Laid.{LaysOut}
use Rattle.desk.specs.declared.job.App.{App}
use Rattle.desk.specs.declared.job.Job.{Job}
use Rattle.desk.specs.Phase.{Phase, Waiting, Running, Ended, Live}
use Rattle.desk.specs.Desk.{Place, after_events}
use Rattle.desk.specs.Job.{opening}
use Rattle.desk.specs.Whole.{system_of}

-- What lies in the memory when a run is over: the zone of each application that still runs.

-- A relation by which zones lie in windows, as a maker of zones defines it.
abbrev pub Lying : Type 1
Lying = Window → List Block → (ℕ → Slot) → Type 0

-- The heap of an application that runs.
abbrev pub heap_of : Live → Heap
heap_of live = live.state.memory.heap

-- The heap of an application that runs is the one of these blocks and these master pointers; nothing is said of an
-- application that waits or has ended.
abbrev pub IsHeapOf : Phase → List Block → (ℕ → Slot) → Type 0
IsHeapOf (Waiting start) blocks slots = Unit {0}
IsHeapOf (Running live) blocks slots = IsStored blocks slots (heap_of live)
IsHeapOf (Ended launched) blocks slots = Unit {0}

-- In the window of an application that runs lies its heap: its blocks by other names, and its master pointers with what
-- they say of its handles.
abbrev pub LiesOf : Lying → Phase → Type 0
LiesOf Left (Waiting start) = Unit {0}
LiesOf Left (Running live) = (blocks : List Block) × (slots : ℕ → Slot) × IsStored blocks slots (heap_of live)
    × Left live.window blocks slots
LiesOf Left (Ended launched) = Unit {0}

abbrev pub LiesAt : Lying → Place → Type 0
LiesAt Left p = LiesOf Left p.phase

-- In the window of each application at a desk that runs lies its zone.
abbrev pub AllLie : Lying → List Place → Type 0
AllLie Left [] = Unit {0}
AllLie Left (p ∷ places) = LiesAt Left p × AllLie Left places

-- In the window of each application of a job that runs after the last event lies its zone.
abbrev pub LieAfter : Lying → Result Content OsErr → ℕ → List App → List Event → Type 0
LieAfter Left (Err code) memory apps events = ⊥
LieAfter Left (Ok system) memory apps events = AllLie Left (after_events events (opening memory system apps)).places

abbrev pub LieAtEnd : Lying → Job → Type 0
LieAtEnd Left job = LieAfter Left (system_of job) job.memory job.apps.items job.events.items

-- How the zone of an application that has a region for itself lies in the region. Inside Macintosh: Memory, chapter 1,
-- "Organization of Memory".

-- The bytes are a zone, whatever its blocks are.
abbrev pub IsZone : List ℕ → Type 0
IsZone bytes = (blocks : List Block) × (slots : ℕ → Slot) × LaysOut bytes blocks slots

-- The bytes are the zone of a heap, whose blocks have other names there: headers tile the bytes, master pointers and
-- blocks lead to each other, and the master pointer of each handle says whether it is a resource's, also where it is
-- empty.
abbrev pub LieAs : Heap → List ℕ → Type 0
LieAs heap bytes = (blocks : List Block) × (slots : ℕ → Slot) × IsStored blocks slots heap × LaysOut bytes blocks slots
