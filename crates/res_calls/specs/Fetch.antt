use Rattle.std.specs.Prelude.{ℕ, ◌&&◌, ◌==◌, Bool, not, Option, Some, None, Result, Ok, Err, List, [], ◌∷◌, ◌++◌}
use Rattle.std.specs.Prelude.{if◌then◌else◌}
use Rattle.mac_words.specs.declared.code.OsErr.{OsErr}
use Rattle.mac_words.specs.Attributes.{has_bit}
use Rattle.mac_words.specs.declared.attributes.TheConstants.Attrs.{PURGEABLE, LOCKED}
use Rattle.block_store.specs.declared.flags.Flags.{Flags}
use Rattle.heap_calls.specs.State.{Resource, Memory}
use Rattle.heap_calls.specs.Inside.{new_inside, new_empty_inside, refill_inside, has_block, resource_role}
use Rattle.res_map.specs.Map.{Reference, is_preload}
use Rattle.res_calls.specs.Files.{Resources, OpenFile, Found, holding}

-- Fetching a resource: its reference gets a handle, and its stored data is read into the handle's block. More Macintosh
-- Toolbox, chapter 1, "Reading Resources into Memory".

-- A heap, and the resources that have handles in the heap.
pub record Managers : Type 0 where
  pub memory : Memory
  pub resources : Resources

-- The reads of a call: each handle, with the stored data that was read into its block.
abbrev pub Reads : Type 0
Reads = List (ℕ × List ℕ)

-- The answer of a call: its reply, what the call read, the empty handle into whose block the call reads again (whether
-- the zone had room or not), and the managers after the call.
pub record Answer (T : Type 0) : Type 0 where
  pub reply : Result T OsErr
  pub reads : Reads
  pub reading : Option ℕ
  pub after : Managers

-- The answer of a call that succeeds and reads nothing.
abbrev pub done : {T : Type 0} → T → Managers → Answer T
done value s = record { reply = Ok value; reads = []; reading = None; after = s }

-- The answer of a call that is refused and changes nothing.
abbrev pub refused : {T : Type 0} → OsErr → Managers → Answer T
refused code s = record { reply = Err code; reads = []; reading = None; after = s }

-- The handle of a fetched resource, and how often its stored data was read: once, or not at all.
pub record Fetched : Type 0 where
  pub handle : ℕ
  pub read : ℕ

-- The flags of the block into which a resource is read: locked for resLocked, purgeable for resPurgeable.
abbrev pub flags_of : Reference → Flags
flags_of r = record { locked = has_bit LOCKED r.stored.attrs; purgeable = has_bit PURGEABLE r.stored.attrs }

-- Holds of the System file, whose resources have guarded handles.
abbrev pub is_system : OpenFile → Bool
is_system f = f.number == 0

-- The managers where the found reference has the handle `h`.
abbrev pub held : Found → ℕ → Managers → Managers
held at h s = record s { resources = holding (Some h) at s.resources }

-- The answer of a fetch that made a new handle, with the stored data in its block, or empty.
abbrev pub now_filled : Found → Result ℕ OsErr × Memory → Managers → Answer Fetched
now_filled at (Err code, m) s = refused code (record s { memory = m })
now_filled at (Ok h, m) s = record {
  reply = Ok (record { handle = h; read = 1 });
  reads = (h, at.reference.here.stored.datum) ∷ [];
  reading = None;
  after = held at h (record s { memory = m });
}

abbrev pub now_empty : Found → Result ℕ OsErr × Memory → Managers → Answer Fetched
now_empty at (Err code, m) s = refused code (record s { memory = m })
now_empty at (Ok h, m) s = done (record { handle = h; read = 0 }) (held at h (record s { memory = m }))

-- The fetch of a reference that has no handle: a new handle is made, to a block that holds the stored data where
-- loading is on, and an empty handle otherwise.
-- See decision 47 (with loading off, a reference without a handle still needs a slot).
abbrev pub fetch_new : Bool → Found → Managers → Answer Fetched
fetch_new loading at s =
    if loading
    then now_filled at (new_inside (resource_role (is_system at.file.here)) (flags_of at.reference.here)
    at.reference.here.stored.datum s.memory) s
    else now_empty at (new_empty_inside (resource_role (is_system at.file.here)) s.memory) s

-- The answer of a fetch that read the stored data into the block of an empty handle again.
-- See decision 51 (a fetch reports what it was reading where it finds no room).
abbrev pub now_refilled : Found → ℕ → Result (Unit {0}) OsErr × Memory → Managers → Answer Fetched
now_refilled at h (Err code, m) s =
    record { reply = Err code; reads = []; reading = Some h; after = record s { memory = m } }
now_refilled at h (Ok done, m) s = record {
  reply = Ok (record { handle = h; read = 1 });
  reads = (h, at.reference.here.stored.datum) ∷ [];
  reading = Some h;
  after = record s { memory = m };
}

-- The fetch of a reference that has a handle: the stored data is read again where loading is on and the handle is
-- empty; a handle that has a block stays as it is.
abbrev pub fetch_again : Bool → Found → ℕ → Managers → Answer Fetched
fetch_again loading at h s =
    if loading && not (has_block h s.memory.heap)
    then now_refilled at h (refill_inside h (flags_of at.reference.here) at.reference.here.stored.datum s.memory) s
    else done (record { handle = h; read = 0 }) s

-- The fetch of a reference: its handle is made where it has none, and its stored data is read where need be.
abbrev pub fetch_as : Bool → Found → Option ℕ → Managers → Answer Fetched
fetch_as loading at None s = fetch_new loading at s
fetch_as loading at (Some h) s = fetch_again loading at h s

abbrev pub fetch : Bool → Found → Managers → Answer Fetched
fetch loading at s = fetch_as loading at at.reference.here.handle s

-- The result of opening a file: the references, the heap, and what was read.
pub record Loaded : Type 0 where
  pub references : List Reference
  pub memory : Memory
  pub reads : Reads

-- A reference with the handle that was made for it, or without a handle where the zone had no room.
abbrev pub given : Reference → Result ℕ OsErr × Memory → Loaded
given x (Err code, m) = record { references = x ∷ []; memory = m; reads = [] }
given x (Ok h, m) = record { references = record x { handle = Some h } ∷ []; memory = m; reads = (h, x.stored.datum) ∷ [] }

abbrev pub preload_one : Reference → Memory → Loaded
preload_one x m = if is_preload x then given x (new_inside Resource (flags_of x) x.stored.datum m)
    else record { references = x ∷ []; memory = m; reads = [] }

-- The result of loading some references and then others.
abbrev pub loaded_both : Loaded → Loaded → Loaded
loaded_both first rest = record {
  references = first.references ++ rest.references;
  memory = rest.memory;
  reads = first.reads ++ rest.reads;
}

-- Preloading: the stored data of each reference that has resPreload is read into a new handle's block, in order.
-- See decision 46 (preloading reads in order, and runs no grow-zone script).
abbrev pub preload : List Reference → Memory → Loaded
preload [] m = record { references = []; memory = m; reads = [] }
preload (x ∷ references) m = loaded_both (preload_one x m) (preload references (preload_one x m).memory)
