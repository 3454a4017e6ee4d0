use Rattle.std.specs.Prelude.{◌≡◌, ◌≢◌, ◌≤◌, ◌⊎◌, ℕ, ℤ, Bool, true, false, ◌&&◌, Option, Some, None, List, [], ◌∷◌, length}
use Rattle.std.specs.Prelude.{◌+◌}
use Rattle.mac_words.specs.declared.code.OsErr.{OsErr}
use Rattle.mac_words.specs.declared.code.TheConstants.OsErr.{SYSTEM_ERROR}
use Rattle.block_store.specs.Block.{Block, is_relocatable}
use Rattle.block_store.specs.Run.{has}
use Rattle.block_store.specs.Rest.{counted}
use Rattle.heap_calls.specs.State.{State, Memory}
use Rattle.mac_words.specs.Told.{Told, Bytes, Refused}
use Rattle.heap_calls.specs.Table.{Show, ShowPtr}
use Rattle.heap_calls.specs.LastPut.{Holds, put_by}
use Rattle.heap_calls.specs.Locked.{locked_place, releases}
use Rattle.heap_calls.specs.Standing.{pointer_place, disposes}
use Rattle.heap_calls.specs.Emptying.{has_purgeable, takes_block}
use Rattle.heap_calls.specs.Refused.{refused_zone, code_left}
use Rattle.heap_calls.specs.Staying.{CostsAtMostMasters}
use Rattle.heap_calls.specs.Busy.{idle}
use Rattle.heap_calls.specs.Table.{gone_in}
use Rattle.script_text.specs.declared.script.Line.{Line}
use Rattle.heap_calls.specs.Path.{put_reads}
use Rattle.heap_calls.specs.Answer.{nothing}
use Rattle.heap_calls.specs.Slots.{slotted_zone}
use Rattle.res_calls.specs.Fetch.{Reads}
use Rattle.res_calls.specs.Disposing.{disposes_of, opens_file}
use Rattle.res_calls.specs.Writing.{writes}
use Rattle.res_calls.specs.Files.{Resources}
use Rattle.res_calls.specs.Gone.{gone_for}
use Rattle.res_calls.specs.Purging.{heard, stored_gone}
use Rattle.res_calls.specs.Refused.{left_refused}
use Rattle.res_calls.specs.Own.{fetch_own}
use Rattle.segments.specs.Asked.{unlocks}
use Rattle.segments.specs.Calls.{code_type}
use Rattle.segments.specs.Gone.{gone_for as segment_gone}
use Rattle.applications.specs.Trying.{Running, Blocks, managers_of, program_of, read_at_launch, nowhere, storing}
use Rattle.applications.specs.Step.{Deed, Ask, Find, Jump, Steer, deed_of, Event, Shown, LineEnd, step, step_by_rule}

-- What holds of each try of a run, the refused tries and the tries of a grow-zone script's lines too.

-- The bytes last put, after a call of the Resource Manager. What the call read counts, unless the call was refused.
abbrev pub put_found : Told → Reads → (ℕ → List ℕ) → ℕ → List ℕ
put_found (Refused code) reads bytes = bytes
put_found told reads bytes = put_reads reads bytes

-- The bytes last put into each handle and pointer, after one more try. What a call on a segment reads counts even where
-- the call is refused, since the application then ends with the segment in memory.
-- See decision 78 (what a call on a segment read counts as put, also where the call is refused).
abbrev pub put_deed : Deed → Told → Reads → (ℕ → List ℕ) → ℕ → List ℕ
put_deed (Ask asked) told reads bytes = put_by asked told bytes
put_deed (Find asked) told reads bytes = put_found told reads bytes
put_deed (Jump call) told reads bytes = put_reads reads bytes
put_deed (Steer control) told reads bytes = bytes

abbrev pub put_event : Event → (ℕ → List ℕ) → ℕ → List ℕ
put_event e bytes = put_deed e.deed e.told e.reads bytes

-- The bytes last put after the tries of a history, from the bytes last put before the history.
abbrev pub put_events : List Event → (ℕ → List ℕ) → ℕ → List ℕ
put_events [] bytes = bytes
put_events (e ∷ events) bytes = put_events events (put_event e bytes)

-- The bytes last put before the first step of an application: the stored data that was read from its fork at the
-- launch.
abbrev pub put_at_launch : Resources → ℕ → ℕ → List ℕ
put_at_launch resources n = put_reads (read_at_launch resources n nowhere) (λ h. [])

-- The predicate holds of each try, given the bytes last put before the try.
abbrev pub EachTry : ((ℕ → List ℕ) → Event → Type 0) → (ℕ → List ℕ) → List Event → Type 0
EachTry P bytes [] = Unit {0}
EachTry P bytes (e ∷ events) = P bytes e × EachTry P (put_event e bytes) events

-- Each try begins with the heap that the try before it left.
abbrev pub Linked : State → List Event → Type 0
Linked s [] = Unit {0}
Linked s (e ∷ events) = (e.before.memory.heap ≡ s) × Linked e.after.memory.heap events

-- The bytes that a try shows of a handle or a pointer are the bytes last put there.
abbrev pub ShowsPut : (ℕ → List ℕ) → Event → Type 0
ShowsPut bytes e =
    (h : ℕ) (shown : List ℕ) → (e.deed ≡ Ask (Show (Some h))) ⊎ (e.deed ≡ Ask (ShowPtr (Some h)))
    → e.told ≡ Bytes shown → shown ≡ bytes h

-- After a try, each handle that has a block, and each pointer, holds the bytes last put there.
abbrev pub HoldsPut : (ℕ → List ℕ) → Event → Type 0
HoldsPut bytes e = Holds e.after.memory.heap (put_event e bytes)

-- Holds of a reply that is not a refusal: the call was answered.
abbrev pub is_answered : Told → Bool
is_answered (Refused code) = false
is_answered told = true

-- Holds of a call that disposes of the handle `h` or unlocks it, where the call is answered.
abbrev pub frees : ℕ → Deed → Running → Bool
frees h (Ask asked) r = releases h asked
frees h (Find asked) r = disposes_of h asked (managers_of r)
frees h (Jump call) r = unlocks h call (managers_of r)
frees h (Steer control) r = false

-- Holds of a call that disposes of the pointer `p`, where the call is answered.
abbrev pub drops : ℕ → Deed → Bool
drops p (Ask asked) = disposes p asked
drops p (Find asked) = false
drops p (Jump call) = false
drops p (Steer control) = false

-- Holds of a call that empties the handle `h` or disposes of it, where the call is answered.
abbrev pub deed_takes_block : ℕ → Deed → Running → Bool
deed_takes_block h (Ask asked) r = takes_block h asked
deed_takes_block h (Find asked) r = disposes_of h asked (managers_of r)
deed_takes_block h (Jump call) r = false
deed_takes_block h (Steer control) r = false

-- Holds of a try that was answered and whose call disposes of the handle `h` or unlocks it.
abbrev pub freed_by : ℕ → Event → Bool
freed_by h e = is_answered e.told && frees h e.deed e.before

-- Holds of a try that was answered and whose call disposes of the pointer `p`.
abbrev pub dropped_by : ℕ → Event → Bool
dropped_by p e = is_answered e.told && drops p e.deed

-- Holds of a try that was answered and whose call empties the handle `h` or disposes of it.
abbrev pub let_go_by : ℕ → Event → Bool
let_go_by h e = is_answered e.told && deed_takes_block h e.deed e.before

-- From one heap to a later one, each block that has a place keeps the place, unless the block was taken away.
pub record StayPut (place_of : ℕ → List Block → Option ℕ) (taken : ℕ → Bool) (before after : State) : Type 0 where
  -- A block that has a place in both heaps has the same place in both.
  pub stays : (n here there : ℕ) → place_of n before.zone ≡ Some here → place_of n after.zone ≡ Some there
      → there ≡ here
  -- A block that has a place in the first heap and none in the second was taken away.
  pub goes : (n here : ℕ) → place_of n before.zone ≡ Some here → place_of n after.zone ≡ None → taken n ≡ true

-- A block that is locked before a try and after it stands at the same distance. A block that is locked before the try
-- and not after it was taken away: the call was answered, and disposes of the block's handle or unlocks it.
abbrev pub KeepsLocked : (ℕ → List ℕ) → Event → Type 0
KeepsLocked bytes e = StayPut locked_place (λ h. freed_by h e) e.before.memory.heap e.after.memory.heap

-- The block of a pointer stands after a try where it stood before, unless it was taken away: the call was answered, and
-- disposes of the pointer.
abbrev pub KeepsNonrelocatable : (ℕ → List ℕ) → Event → Type 0
KeepsNonrelocatable bytes e = StayPut pointer_place (λ p. dropped_by p e) e.before.memory.heap e.after.memory.heap

-- A handle that has a block before a try and no block after the try had a block that may be purged, or the call was
-- answered and empties the handle or disposes of it.
abbrev pub PurgesOnlyPurgeable : (ℕ → List ℕ) → Event → Type 0
PurgesOnlyPurgeable bytes e =
    (h : ℕ) → has (is_relocatable h) e.before.memory.heap.zone ≡ true
    → has (is_relocatable h) e.after.memory.heap.zone ≡ false
    → (has_purgeable h e.before.memory.heap.zone ≡ true) ⊎ (let_go_by h e ≡ true)

-- The try is one of the line's call, and the line reports the reply of the try. A line without a try of its own
-- reports a refusal.
abbrev pub IsTryOf : Shown → Option Event → Type 0
IsTryOf x None = is_answered x.told ≡ false
IsTryOf x (Some e) = (e.deed ≡ deed_of x.line.call e.before.names) × (e.told ≡ x.told)

-- Whether the try of a line took a block away; a line without a try of its own took no block away.
abbrev pub taken_in : (ℕ → Event → Bool) → Option Event → ℕ → Bool
taken_in taken None n = false
taken_in taken (Some e) n = taken n e

-- From the heap before the lines to the heap after the first, and from each line to the next, each block that has a
-- place keeps the place, unless the line's own try took the block away. Each line has its end.
abbrev pub LinesStayPut : (ℕ → List Block → Option ℕ) → (ℕ → Event → Bool) → State → List Shown → List LineEnd
    → Type 0
LinesStayPut place_of taken before [] [] = Unit {0}
LinesStayPut place_of taken before (x ∷ lines) (e ∷ ends) =
    IsTryOf x e.try × StayPut place_of (taken_in taken e.try) before e.heap
    × LinesStayPut place_of taken e.heap lines ends
LinesStayPut place_of taken before lines ends = ⊥

-- A block that is locked after one line of the transcript and after the next, lines of grow-zone scripts included,
-- stands at the same distance. A block that is locked after the one and not after the next was taken away by the call
-- of the next line, which was answered and disposes of the block's handle or unlocks it.
abbrev pub LockedStay : State → List Shown → List LineEnd → Type 0
LockedStay before lines ends = LinesStayPut locked_place freed_by before lines ends

-- The block of a pointer stands after one line of the transcript where it stood after the line before, unless the
-- line's call was answered and disposes of the pointer.
abbrev pub NonrelocatableStay : State → List Shown → List LineEnd → Type 0
NonrelocatableStay before lines ends = LinesStayPut pointer_place dropped_by before lines ends

-- Holds of a call that opens a file. The call may make as many blocks as the file has resources to preload.
-- See decision 94 (an opening may search for room once for each resource that it reads).
abbrev pub opens : Deed → Bool
opens (Ask asked) = false
opens (Find asked) = opens_file asked
opens (Jump call) = false
opens (Steer control) = false

-- A try that does not open a file makes at most one search for room more than there are blocks at its start, by the
-- heap's own count.
abbrev pub SearchesFew : (ℕ → List ℕ) → Event → Type 0
SearchesFew bytes e =
    opens e.deed ≡ false → (n : ℕ) × (n ≤ length e.before.memory.heap.zone + 1)
    × (e.after.memory.log.searches ≡ counted e.before.memory.log.searches n)

-- What a refused try leaves of the memory: a heap with this zone, this code for MemError, and all else as it was, except
-- for what is counted: the searches for room, and the blocks that packing moved down.
abbrev pub LeavesMemory : List Block → OsErr → Memory → Memory → Type 0
LeavesMemory zone code before after = after ≡ record before {
  heap = record before.heap { zone = zone };
  log = record before.log { code = code; searches = after.log.searches };
  moves = after.moves;
}

-- The application as the fetch of a segment's resource leaves it; as it was where no resource is fetched.
abbrev pub with_segment : Option ℤ → Running → Running
with_segment None r = r
with_segment (Some n) r = record r {
  memory = (fetch_own code_type n (managers_of r)).after.memory;
  resources = (fetch_own code_type n (managers_of r)).after.resources;
}

-- What a refused try leaves. A call of the heap's table leaves the memory as it was, except the zone, which is as a
-- refused call leaves it, and the code of the refusal. A call of the Resource Manager sets its own code and leaves that of
-- MemError, and may leave a master pointer block that was made for a new handle; where WritePartialResource or
-- SetResourceSize is refused with -188 (resourceInMemory) the stored data is changed all the same (`left_refused`). What
-- either purged is stored while SetResPurge is on. A call on a segment leaves everything as it was, unless system error 15
-- refuses it: then everything is as the fetch of the segment's resource left it, if there was a fetch. A call that steers
-- the application is never refused.
abbrev pub Kept : Deed → OsErr → Running → Running → Type 0
Kept (Ask asked) code r after =
    LeavesMemory (refused_zone asked r.memory) (code_left asked code r.memory.log.code) r.memory after.memory
    × (after.resources ≡ stored_gone (heard r.resources.purging (gone_in asked r.memory)) r.resources)
Kept (Find asked) code r after =
    ((LeavesMemory r.memory.heap.zone r.memory.log.code r.memory after.memory)
    ⊎ (LeavesMemory (slotted_zone nothing r.memory.heap) r.memory.log.code r.memory after.memory))
    × (after.resources ≡ stored_gone (heard r.resources.purging (gone_for asked (managers_of r)))
    (record (left_refused asked code (managers_of r)) { error = code }))
Kept (Jump call) code r after =
    (code ≢ SYSTEM_ERROR → after ≡ r)
    × ((n : Option ℤ)
    × (after ≡ storing r.resources.purging (segment_gone call (program_of r)) (with_segment n r)))
Kept (Steer control) code r after = ⊥

-- A refused try leaves exactly that, and leaves each name bound as it was.
abbrev pub RefusedLeaves : (ℕ → List ℕ) → Event → Type 0
RefusedLeaves bytes e =
    (code : OsErr) → e.told ≡ Refused code → Kept e.deed code e.before e.after × (e.after.names ≡ e.before.names)

-- A refused try costs nothing of the bytes that are free or may be purged, or one master pointer block, which it made.
-- Only a call on a segment that is refused although its resource was read costs more; the application ends with it.
abbrev pub RefusedCosts : (ℕ → List ℕ) → Event → Type 0
RefusedCosts bytes e =
    (code : OsErr) → e.told ≡ Refused code → e.reads ≡ []
    → CostsAtMostMasters e.before.memory.heap.zone e.after.memory.heap.zone

-- What a call of the heap's table does to the resources: it stores what was changed of the blocks that it purges, while
-- SetResPurge is on, and changes nothing else. A call that steers the application changes nothing of them.
abbrev pub OnlyStores : Deed → Running → Running → Type 0
OnlyStores (Ask asked) before after =
    after.resources ≡ stored_gone (heard before.resources.purging (gone_in asked before.memory)) before.resources
OnlyStores (Find asked) before after = Unit {0}
OnlyStores (Jump call) before after = Unit {0}
OnlyStores (Steer control) before after = after.resources ≡ before.resources

abbrev pub KeepsResources : (ℕ → List ℕ) → Event → Type 0
KeepsResources bytes e = OnlyStores e.deed e.before e.after

-- Holds of a call that may write the fork of a file: the call creates a file, or updates one.
abbrev pub writes_files : Deed → Bool
writes_files (Ask asked) = false
writes_files (Find asked) = writes asked
writes_files (Jump call) = false
writes_files (Steer control) = false

-- No other try changes a file.
abbrev pub KeepsFiles : (ℕ → List ℕ) → Event → Type 0
KeepsFiles bytes e = writes_files e.deed ≡ false → e.after.resources.files ≡ e.before.resources.files

-- Holds of a call on a segment; no other call may change the jump table.
abbrev pub jumps : Deed → Bool
jumps (Ask asked) = false
jumps (Find asked) = false
jumps (Jump call) = true
jumps (Steer control) = false

abbrev pub KeepsTable : (ℕ → List ℕ) → Event → Type 0
KeepsTable bytes e = jumps e.deed ≡ false → e.after.table ≡ e.before.table

-- The predicate holds of each step of a run, to the last line or to the end of the application.
abbrev pub EachStep : (Line → Running → Type 0) → Blocks → List Line → Running → Type 0
EachStep P blocks [] r = Unit {0}
EachStep P blocks (l ∷ lines) r =
    P l r × ((step blocks l r).over ≡ false → EachStep P blocks lines (step blocks l r).after)

-- Where the call of a step is refused, each name is bound as before the step, whatever the grow-zone script did.
abbrev pub RefusedBinds : Blocks → List Line → Running → Type 0
RefusedBinds blocks lines r = EachStep
    (λ l r. (code : OsErr) → (step blocks l r).told ≡ Some (Refused code) → (step blocks l r).after.names ≡ r.names)
    blocks lines r

-- No handle or pointer is busy after a step.
abbrev pub NothingBusy : Blocks → List Line → Running → Type 0
NothingBusy blocks lines r = EachStep (λ l r. (step blocks l r).after.memory.log.busy ≡ idle) blocks lines r

-- A step is a round, and the same step again where the grow-zone script made room: the bound on the number of rounds is
-- never met.
abbrev pub GoesByRule : Blocks → List Line → Running → Type 0
GoesByRule blocks lines r = EachStep (λ l r. step blocks l r ≡ step_by_rule blocks l r) blocks lines r
