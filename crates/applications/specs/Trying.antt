use Rattle.std.specs.Prelude.{ℕ, pos, Bool, true, false, Option, Some, None, List, [], ◌∷◌, codes, replicate}
use Rattle.std.specs.Ordering.{int_eq}
use Rattle.mac_words.specs.declared.code.OsErr.{OsErr}
use Rattle.mac_words.specs.declared.code.TheConstants.OsErr.{NO_ERR, MEM_FULL, SYSTEM_ERROR}
use Rattle.mac_words.specs.declared.call.Call.{Call}
use Rattle.mac_words.specs.declared.call.Call.TheVariants as call
use Rattle.mac_words.specs.declared.call.ControlCall.{ControlCall}
use Rattle.mac_words.specs.declared.call.ControlCall.TheVariants as control
use Rattle.mac_words.specs.declared.call.HeapCall.{HeapCall}
use Rattle.mac_words.specs.declared.call.HeapCall.TheVariants as heap
use Rattle.mac_words.specs.declared.call.Replacement.{Replacement as New}
use Rattle.mac_words.specs.declared.call.Replacement.TheVariants as replacement
use Rattle.mac_words.specs.declared.resource_call.ResourceCall.{ResourceCall}
use Rattle.mac_words.specs.declared.resource_call.ResourceCall.TheVariants as resource
use Rattle.byteorder.specs.Endian.{big_number}
use Rattle.mac_words.specs.declared.name.OsType.{OsType}
use denote.RawPtr.{null_ptr}
use Rattle.block_store.specs.Rest.{Site}
use Rattle.heap_calls.specs.State.{Memory, fresh_memory}
use Rattle.mac_words.specs.Told.{Told, Done, Given, Fetched, Number, Numbers, Offset, Code, Bytes, Kind, Info, Entry, Refused}
use Rattle.heap_calls.specs.Table.{Asked}
use Rattle.heap_calls.specs.Serving.{CopyOf, Zeros}
use Rattle.heap_calls.specs.Table as asks
use Rattle.heap_calls.specs.Munging.{Target, target_of}
use Rattle.heap_calls.specs.Table.{served, gone_in}
use Rattle.heap_calls.specs.Gone.{Gone}
use Rattle.fork_format.specs.Content.{Content}
use Rattle.fork_format.specs.Canonical.{canon}
use Rattle.res_map.specs.Map.{map_of}
use Rattle.res_calls.specs.Files.{File, Resources, fresh_resources}
use Rattle.res_calls.specs.Fetch.{Managers, Reads}
use Rattle.res_calls.specs.Asked.{ResourceAsked, Served}
use Rattle.res_calls.specs.Asked as finds
use Rattle.res_calls.specs.Gone as purges
use Rattle.res_calls.specs.Own.{own_datum}
use Rattle.res_calls.specs.Purging.{heard, stored_gone}
use Rattle.res_calls.specs.Rows.{Current, EachFile, preloaded}
use Rattle.segments.specs.Table as jumps
use Rattle.segments.specs.Table.{table_in}
use Rattle.segments.specs.Calls.{Program, code_type}
use Rattle.segments.specs.Asked as segments
use Rattle.segments.specs.Gone as jump_purges
use Rattle.script_text.specs.Script.{block_of}
use Rattle.script_text.specs.declared.script.Line.{Line}
use Rattle.applications.specs.Names.{Bindings, bound_to}

-- One try of one call, by the application that makes the call. A try binds no name, writes no line, and is not
-- repeated.

-- A running application: its memory, its resources, its jump table, the numbers to which the names of its script are
-- bound, and the lines of its grow-zone script, or no lines where no grow-zone script is set.
pub record Running : Type 0 where
  pub memory : Memory
  pub resources : Resources
  pub table : List jumps.Entry
  pub names : Bindings
  pub grow : List Line

-- No place. A transcript does not depend on the place of the partition.
abbrev pub nowhere : Site
nowhere = record { home = null_ptr; window = record { at = 0; len = 0 } }

-- The content of a resource fork that has no resources.
abbrev pub no_content : Content
no_content = record { area = replicate 240 0; attrs = 0; groups = [] }

-- The files of an application that is only a script: one file, whose fork has no resources.
-- See decision 52 (`macmem script` runs an application whose fork has no resources).
abbrev pub own_files : List File
own_files = record { name = codes "script"; fork = canon no_content; written = false } ∷ []

-- The resources of that application at its launch: none of its own, and none of the System file.
abbrev pub own_resources : Resources
own_resources = fresh_resources own_files (map_of no_content) (map_of no_content)

-- The managers of an application in a fresh partition of `n` bytes, and what is read from its fork at the launch.
abbrev pub opened_in : Resources → ℕ → Site → Managers × Reads
opened_in resources n site = preloaded (record { memory = fresh_memory n site; resources = resources })

-- An application with these resources in a fresh partition of `n` bytes, before its first step: the resources that have
-- resPreload are preloaded, and the jump table is read from 'CODE' 0.
-- See decision 82 (preloaded resources of the own fork are read before the first step).
abbrev pub launched_with : Resources → ℕ → Site → Running
launched_with resources n site = record {
  memory = (opened_in resources n site).0.memory;
  resources = (opened_in resources n site).0.resources;
  table = table_in (own_datum code_type (pos 0) resources);
  names = [];
  grow = [];
}

-- The bytes that are read into each handle at the launch.
abbrev pub read_at_launch : Resources → ℕ → Site → Reads
read_at_launch resources n site = (opened_in resources n site).1

-- An application that is only a script, before its first step.
abbrev pub launched : ℕ → Site → Running
launched n site = launched_with own_resources n site

-- The heap of an application with the resources that have handles in the heap, and both with the jump table.
abbrev pub managers_of : Running → Managers
managers_of r = record { memory = r.memory; resources = r.resources }

abbrev pub program_of : Running → Program
program_of r = record { managers = managers_of r; table = r.table }

-- The grow-zone scripts of a text, each with its name.
abbrev pub Blocks : Type 0
Blocks = List (List ℕ × List Line)

-- `Munger` with what it puts there: bytes, or NIL.
abbrev pub replacing : Option ℕ → ℕ → Target → New → Asked
replacing handle from old (replacement.Bytes new) = asks.Munger handle from old new.items
replacing handle from old replacement.Nil = asks.MungerNil handle from old

-- A call of the heap's table, with the numbers that its names are bound to.
abbrev pub asked : HeapCall → Bindings → Asked
asked (heap.NewHandle name size) names = asks.NewHandle (Zeros size)
asked (heap.NewEmptyHandle name) names = asks.NewEmptyHandle
asked (heap.DisposeHandle name) names = asks.DisposeHandle (bound_to name.0.items names)
asked (heap.GetHandleSize name) names = asks.GetHandleSize (bound_to name.0.items names)
asked (heap.SetHandleSize name size) names = asks.SetHandleSize (bound_to name.0.items names) size
asked (heap.ReallocateHandle name size) names = asks.ReallocateHandle (bound_to name.0.items names) size
asked (heap.EmptyHandle name) names = asks.EmptyHandle (bound_to name.0.items names)
asked (heap.HLock name) names = asks.HLock (bound_to name.0.items names)
asked (heap.HUnlock name) names = asks.HUnlock (bound_to name.0.items names)
asked (heap.HPurge name) names = asks.HPurge (bound_to name.0.items names)
asked (heap.HNoPurge name) names = asks.HNoPurge (bound_to name.0.items names)
asked (heap.HGetState name) names = asks.HGetState (bound_to name.0.items names)
asked (heap.HSetState name state) names = asks.HSetState (bound_to name.0.items names) state
asked (heap.HandleZone name) names = asks.HandleZone (bound_to name.0.items names)
asked (heap.RecoverHandle name place) names = asks.RecoverHandle place
asked (heap.MoveHHi name) names = asks.MoveHHi (bound_to name.0.items names)
asked (heap.HLockHi name) names = asks.HLockHi (bound_to name.0.items names)
asked (heap.HandToHand name from) names = asks.HandToHand (bound_to from.value.0.items names)
asked (heap.PtrToHand name bytes) names = asks.NewHandle (CopyOf bytes.items)
asked (heap.HandAndHand from to) names = asks.HandAndHand (bound_to from.0.items names) (bound_to to.value.0.items names)
asked (heap.PtrAndHand name bytes) names = asks.PtrAndHand (bound_to name.0.items names) bytes.items
asked (heap.PtrToXHand name bytes) names = asks.PtrToXHand (bound_to name.0.items names) bytes.items
asked (heap.Munger name from old new) names =
    replacing (bound_to name.0.items names) from (target_of old.value) new.value
asked (heap.NewPtr name size) names = asks.NewPtr size
asked (heap.DisposePtr name) names = asks.DisposePtr (bound_to name.0.items names)
asked (heap.GetPtrSize name) names = asks.GetPtrSize (bound_to name.0.items names)
asked (heap.SetPtrSize name size) names = asks.SetPtrSize (bound_to name.0.items names) size
asked (heap.PtrZone name) names = asks.PtrZone (bound_to name.0.items names)
asked (heap.BlockMove a from b to count) names =
    asks.BlockMove (bound_to a.0.items names) from (bound_to b.value.0.items names) to count
asked heap.FreeMem names = asks.FreeMem
asked heap.MaxBlock names = asks.MaxBlock
asked heap.PurgeSpace names = asks.PurgeSpace
asked (heap.CompactMem size) names = asks.CompactMem size
asked (heap.PurgeMem size) names = asks.PurgeMem size
asked heap.MaxMem names = asks.MaxMem
asked (heap.ReserveMem size) names = asks.ReserveMem size
asked heap.MoreMasters names = asks.MoreMasters
asked heap.MemError names = asks.MemError
asked (heap.Put name from bytes) names = asks.Put (bound_to name.0.items names) from bytes.items
asked (heap.Show name) names = asks.Show (bound_to name.0.items names)
asked (heap.PutPtr name from bytes) names = asks.PutPtr (bound_to name.0.items names) from bytes.items
asked (heap.ShowPtr name) names = asks.ShowPtr (bound_to name.0.items names)
asked (heap.Where name) names = asks.Where (bound_to name.0.items names)

-- The number of a resource type, and a call of the Resource Manager's table, with the number that its name is bound to.
abbrev pub type_number : OsType → ℕ
type_number ty = big_number 4 ty.0

abbrev pub resource_asked : ResourceCall → Bindings → ResourceAsked
resource_asked (resource.OpenResFile name) names = finds.OpenResFile name.0.items
resource_asked (resource.CreateResFile name) names = finds.CreateResFile name.0.items
resource_asked (resource.CloseResFile number) names = finds.CloseResFile number
resource_asked (resource.UpdateResFile number) names = finds.UpdateResFile number
resource_asked (resource.UseResFile number) names = finds.UseResFile number
resource_asked resource.CurResFile names = finds.CurResFile
resource_asked (resource.HomeResFile name) names = finds.HomeResFile (bound_to name.0.items names)
resource_asked (resource.GetResource name ty id) names = finds.GetResource (type_number ty) id
resource_asked (resource.Get1Resource name ty id) names = finds.Get1Resource (type_number ty) id
resource_asked (resource.GetNamedResource name ty text) names = finds.GetNamedResource (type_number ty) text.value.0.items
resource_asked (resource.Get1NamedResource name ty text) names =
    finds.Get1NamedResource (type_number ty) text.value.0.items
resource_asked (resource.GetResFileAttrs number) names = finds.GetResFileAttrs number
resource_asked (resource.SetResFileAttrs number attrs) names = finds.SetResFileAttrs number attrs
resource_asked resource.CountTypes names = finds.CountTypes EachFile
resource_asked resource.Count1Types names = finds.CountTypes Current
resource_asked (resource.GetIndType index) names = finds.GetIndType EachFile index
resource_asked (resource.Get1IndType index) names = finds.GetIndType Current index
resource_asked (resource.CountResources ty) names = finds.CountResources EachFile (type_number ty)
resource_asked (resource.Count1Resources ty) names = finds.CountResources Current (type_number ty)
resource_asked (resource.GetIndResource name ty index) names = finds.GetIndResource EachFile (type_number ty) index
resource_asked (resource.Get1IndResource name ty index) names = finds.GetIndResource Current (type_number ty) index
resource_asked (resource.UniqueID ty) names = finds.UniqueID EachFile (type_number ty)
resource_asked (resource.Unique1ID ty) names = finds.UniqueID Current (type_number ty)
resource_asked (resource.LoadResource name) names = finds.LoadResource (bound_to name.0.items names)
resource_asked (resource.ReleaseResource name) names = finds.ReleaseResource (bound_to name.0.items names)
resource_asked (resource.DetachResource name) names = finds.DetachResource (bound_to name.0.items names)
resource_asked (resource.AddResource name ty id text) names =
    finds.AddResource (bound_to name.0.items names) (type_number ty) id text.value.0.items
resource_asked (resource.RemoveResource name) names = finds.RemoveResource (bound_to name.0.items names)
resource_asked (resource.ChangedResource name) names = finds.ChangedResource (bound_to name.0.items names)
resource_asked (resource.WriteResource name) names = finds.WriteResource (bound_to name.0.items names)
resource_asked (resource.GetResInfo name) names = finds.GetResInfo (bound_to name.0.items names)
resource_asked (resource.SetResInfo name id text) names =
    finds.SetResInfo (bound_to name.0.items names) id text.value.0.items
resource_asked (resource.GetResAttrs name) names = finds.GetResAttrs (bound_to name.0.items names)
resource_asked (resource.SetResAttrs name attrs) names = finds.SetResAttrs (bound_to name.0.items names) attrs
resource_asked (resource.GetResourceSizeOnDisk name) names =
    finds.GetResourceSizeOnDisk (bound_to name.0.items names)
resource_asked (resource.ReadPartialResource name offset count) names =
    finds.ReadPartialResource (bound_to name.0.items names) offset count
resource_asked (resource.WritePartialResource name offset bytes) names =
    finds.WritePartialResource (bound_to name.0.items names) offset bytes.items
resource_asked (resource.SetResourceSize name size) names = finds.SetResourceSize (bound_to name.0.items names) size
resource_asked (resource.SetResPurge on) names = finds.SetResPurge on
resource_asked (resource.SetResLoad on) names = finds.SetResLoad on
resource_asked resource.ResError names = finds.ResError

-- The outcome of one try of a call: its reply; what it read; the empty handle that it reads again, whether the zone had
-- room or not; whether the call found no room; whether the application ends with the call; and the application after
-- the try.
-- See decision 91 (what a try was reading again has a place in the try).
pub record Tried : Type 0 where
  pub told : Told
  pub reads : Reads
  pub reading : Option ℕ
  pub wants : Bool
  pub over : Bool
  pub after : Running

-- The code of a reply.
abbrev pub code_told : Told → OsErr
code_told Done = NO_ERR
code_told (Given n) = NO_ERR
code_told (Fetched handle read) = NO_ERR
code_told (Number n) = NO_ERR
code_told (Numbers one other) = NO_ERR
code_told (Offset offset) = NO_ERR
code_told (Code code) = NO_ERR
code_told (Bytes bytes) = NO_ERR
code_told (Kind kind) = NO_ERR
code_told (Info id kind name) = NO_ERR
code_told (Entry segment flag) = NO_ERR
code_told (Refused code) = code

-- The code of the last reply; no error where there was no reply.
abbrev pub last_code : Option Told → OsErr
last_code None = NO_ERR
last_code (Some told) = code_told told

-- Holds of the code of a call that found no room; and of the code of a segment that cannot be loaded, which ends the
-- application.
-- See decision 85 (a grow-zone script runs at any -108).
abbrev pub is_full : OsErr → Bool
is_full code = int_eq code.0 MEM_FULL.0

abbrev pub is_fatal : OsErr → Bool
is_fatal code = int_eq code.0 SYSTEM_ERROR.0

-- The try of a call of the heap's table.
abbrev pub heap_tried : Told × Memory → Running → Tried
heap_tried answer r = record {
  told = answer.0;
  reads = [];
  reading = None;
  wants = is_full (code_told answer.0);
  over = false;
  after = record r { memory = answer.1 };
}

-- The try of a call of the Resource Manager's table.
abbrev pub resource_tried : Served → Running → Tried
resource_tried s r = record {
  told = s.told;
  reads = s.reads;
  reading = s.reading;
  wants = is_full (code_told s.told);
  over = false;
  after = record r { memory = s.after.memory; resources = s.after.resources };
}

-- The try of a call of the Segment Manager's table.
abbrev pub segment_tried : segments.Served → Running → Tried
segment_tried s r = record {
  told = s.told;
  reads = s.reads;
  reading = s.reading;
  wants = s.wants;
  over = is_fatal (code_told s.told);
  after = record r {
    memory = s.after.managers.memory;
    resources = s.after.managers.resources;
    table = s.after.table;
  };
}

-- The try of a call that is done without the heap.
abbrev pub steered : Bool → Running → Tried
steered over r = record { told = Done; reads = []; reading = None; wants = false; over = over; after = r }

-- The try of a call by which the application says how it is run.
abbrev pub control_tried : Blocks → ControlCall → Running → Tried
control_tried blocks (control.SetGrowZone name) r = steered false (record r { grow = block_of name.0.items blocks })
control_tried blocks control.WaitNextEvent r = steered false r
control_tried blocks control.ExitToShell r = steered true r

-- An application whose resources store what they are to store of the blocks that were purged. `on` is what SetResPurge
-- had set before.
abbrev pub storing : Bool → List Gone → Running → Running
storing on purged r = record r { resources = stored_gone (heard on purged) r.resources }

-- A try with what is stored of the blocks that it purged, of an application as it was before.
abbrev pub with_stored : Running → List Gone → Tried → Tried
with_stored before purged t = record t { after = storing before.resources.purging purged t.after }

-- One try of a call.
abbrev pub once : Blocks → Call → Running → Tried
once blocks (call.Heap c) r = with_stored r (gone_in (asked c r.names) r.memory)
    (heap_tried (served (asked c r.names) r.memory) r)
once blocks (call.Resource c) r = with_stored r (purges.gone_for (resource_asked c r.names) (managers_of r))
    (resource_tried (finds.served (resource_asked c r.names) (managers_of r)) r)
once blocks (call.Segment c) r = with_stored r (jump_purges.gone_for c (program_of r))
    (segment_tried (segments.served c (program_of r)) r)
once blocks (call.Control c) r = control_tried blocks c r
