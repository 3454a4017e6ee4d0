use Rattle.std.specs.Prelude.{ℕ, ℤ, pos, Bool, false, Option, Some, None, Result, Ok, Err, List, []}
use Rattle.std.specs.Prelude.{if◌then◌else◌, slice_get, is_some}
use Rattle.std.specs.Ordering.{int_eq}
use Rattle.mac_words.specs.declared.code.OsErr.{OsErr}
use Rattle.mac_words.specs.declared.code.TheConstants.OsErr.{LOCKED, MEM_FULL, PROFILE, SYSTEM_ERROR}
use Rattle.heap_calls.specs.Contents.{bytes_of}
use Rattle.heap_calls.specs.Inside.{inside, held_high, loosened}
use Rattle.res_calls.specs.Fetch.{Managers, Reads, Fetched}
use Rattle.res_calls.specs.Fetch as fetching
use Rattle.res_calls.specs.Own.{own_datum, own_handle, fetch_own}
use Rattle.res_calls.specs.Rows.{bars, with_memory}
use Rattle.segments.specs.Table.{Entry, can_load, first_entry, entry_count, loaded_from, unloaded}

-- The calls of the Segment Manager, and calls through the jump table. Inside Macintosh: Processes, chapter 7,
-- "Segment Manager Routines".

-- The resource type of segments: 'CODE'.
abbrev pub code_type : ℕ
code_type = 0x434F4445

-- The managers of an application, and its jump table.
pub record Program : Type 0 where
  pub managers : Managers
  pub table : List Entry

-- The answer of a call: its reply, what it read, the empty handle into whose block it reads again, whether or not
-- there was room, whether it is refused because there is no room, and the program after it.
pub record Answer (T : Type 0) : Type 0 where
  pub reply : Result T OsErr
  pub reads : Reads
  pub reading : Option ℕ
  pub wants : Bool
  pub after : Program

-- The answer of a call that is done and read nothing.
abbrev pub done : {T : Type 0} → T → Program → Answer T
done value p = record { reply = Ok value; reads = []; reading = None; wants = false; after = p }

-- The answer of a call that is refused with a code, and changes nothing.
abbrev pub refused : {T : Type 0} → OsErr → Program → Answer T
refused code p = record { reply = Err code; reads = []; reading = None; wants = false; after = p }

-- The managers where the block of the handle h is moved to the top of its run, and locked there.
abbrev pub held : ℕ → Managers → Managers
held h s = with_memory (inside (held_high h) s.memory) s

-- A segment whose resource was fetched: its block is held high, and the entries that the resource names are loaded;
-- system error 15 where the segment cannot be loaded.
abbrev pub load_fetched : ℤ → List ℕ → Fetched → fetching.Answer Fetched → List Entry → Answer Fetched
load_fetched n code f a table = if can_load n code table
    then record {
      reply = Ok f;
      reads = a.reads;
      reading = a.reading;
      wants = false;
      after = record {
        managers = held f.handle a.after;
        table = loaded_from (first_entry code) (entry_count code) table;
      };
    } else record {
      reply = Err SYSTEM_ERROR;
      reads = a.reads;
      reading = None;
      wants = false;
      after = record { managers = a.after; table = table };
    }

-- A segment whose resource could not be fetched: system error 15, because there is no room or for another reason.
-- See decision 76 (a segment that finds no room runs the grow-zone script first).
abbrev pub load_refused : OsErr → fetching.Answer Fetched → List Entry → Answer Fetched
load_refused code a table = record {
  reply = Err SYSTEM_ERROR;
  reads = a.reads;
  reading = a.reading;
  wants = int_eq code.0 MEM_FULL.0;
  after = record { managers = a.after; table = table };
}

abbrev pub load_by : ℤ → List ℕ → Result Fetched OsErr → fetching.Answer Fetched → List Entry → Answer Fetched
load_by n code (Err refusal) a table = load_refused refusal a table
load_by n code (Ok f) a table = load_fetched n code f a table

abbrev pub load_datum : ℤ → Option (List ℕ) → Program → Answer Fetched
load_datum n None p = refused SYSTEM_ERROR p
load_datum n (Some code) p =
    load_by n code (fetch_own code_type n p.managers).reply (fetch_own code_type n p.managers) p.table

-- LoadSeg: fetches a segment's resource and loads its entries; system error 15 where the fork is not open, the number
-- is 0, there is no such segment or no room for its block, or the entries that its resource names are not its own.
abbrev pub load_seg : ℤ → Program → Answer Fetched
load_seg n p = if int_eq n (pos 0) then refused SYSTEM_ERROR p
    else load_datum n (own_datum code_type n p.managers.resources) p

-- The managers where the block of a segment, if it has one, is unlocked and made purgeable.
abbrev pub let_loose : Option ℕ → Managers → Managers
let_loose None s = s
let_loose (Some h) s = with_memory (inside (loosened h) s.memory) s

-- UnloadSeg: unloads all entries of a segment, whatever its resource names, and makes its block unlocked and purgeable;
-- -117 (memLockedErr) where the segment's handle is busy.
abbrev pub unload_handle : ℤ → Option ℕ → Program → Answer (Unit {0})
unload_handle n handle p = if bars handle p.managers.memory then refused LOCKED p
    else done tt (record { managers = let_loose handle p.managers; table = unloaded n p.table })

abbrev pub unload_seg : ℤ → Program → Answer (Unit {0})
unload_seg n p = unload_handle n (own_handle code_type n p.managers.resources) p

-- A segment that was called through one of its entries, and how often it was read for the call: once or not at all.
pub record Called : Type 0 where
  pub segment : ℤ
  pub read : ℕ

-- The answer of a call through an entry, where the entry's segment was loaded for the call.
abbrev pub called : ℤ → Result Fetched OsErr → Result Called OsErr
called n (Err code) = Err code
called n (Ok f) = Ok (record { segment = n; read = f.read })

abbrev pub call_loading : ℤ → Answer Fetched → Answer Called
call_loading n a = record {
  reply = called n a.reply;
  reads = a.reads;
  reading = a.reading;
  wants = a.wants;
  after = a.after;
}

-- Whether a handle has a block.
abbrev pub is_there : Option ℕ → Managers → Bool
is_there None s = false
is_there (Some h) s = is_some (bytes_of h s.memory.heap)

-- A call through a loaded entry; -30001 (profileErr) where its segment has no block all the same.
-- See decision 74 (`CallEntry` of a loaded entry whose block is gone is -30001).
abbrev pub call_loaded : ℤ → Program → Answer Called
call_loaded n p = if is_there (own_handle code_type n p.managers.resources) p.managers
    then done (record { segment = n; read = 0 }) p else refused PROFILE p

abbrev pub call_through : Option ℤ → Bool → Program → Answer Called
call_through None loaded p = refused SYSTEM_ERROR p
call_through (Some n) loaded p = if loaded then call_loaded n p else call_loading n (load_seg n p)

abbrev pub call_found : Option Entry → Program → Answer Called
call_found None p = refused PROFILE p
call_found (Some e) p = call_through e.segment e.loaded p

-- CallEntry: calls through an entry; the segment of an unloaded entry is loaded first. System error 15 also where the
-- entry belongs to no segment, and -30001 (profileErr) where there is no such entry.
abbrev pub call_entry : ℕ → Program → Answer Called
call_entry i p = call_found (slice_get p.table i) p

-- An entry's segment, and whether the entry is loaded.
pub record Shown : Type 0 where
  pub segment : ℤ
  pub loaded : Bool

abbrev pub show_of : Option ℤ → Bool → Program → Answer Shown
show_of None loaded p = refused PROFILE p
show_of (Some n) loaded p = done (record { segment = n; loaded = loaded }) p

abbrev pub show_found : Option Entry → Program → Answer Shown
show_found None p = refused PROFILE p
show_found (Some e) p = show_of e.segment e.loaded p

-- ShowEntry: an entry's segment, and whether the entry is loaded; -30001 (profileErr) where there is no such entry,
-- or it belongs to no segment.
abbrev pub show_entry : ℕ → Program → Answer Shown
show_entry i p = show_found (slice_get p.table i) p
