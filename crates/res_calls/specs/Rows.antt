use Rattle.std.specs.Prelude.{ℕ, zero, suc, ℤ, pos, ◌+◌, ◌-◌, is_some, Bool, true, false, ◌==◌, nat_lt, Option}
use Rattle.std.specs.Prelude.{Some, None, Result, Ok, Err, List, [], ◌∷◌}
use Rattle.std.specs.Prelude.{min, length, bit_or, if◌then◌else◌, option_map, unwrap_or, filter_map}
use Rattle.mac_words.specs.declared.code.OsErr.{OsErr}
use Rattle.mac_words.specs.declared.code.TheConstants.OsErr.{FILE_NOT_FOUND, LOCKED, PROFILE}
use Rattle.mac_words.specs.declared.code.TheConstants.OsErr.{DISK_FULL}
use Rattle.mac_words.specs.declared.code.TheConstants.OsErr.{RES_ATTR, RES_FILE_NOT_FOUND, RES_NOT_FOUND}
use Rattle.heap_calls.specs.State.{Memory}
use Rattle.heap_calls.specs.Answer.{code_of}
use Rattle.heap_calls.specs.Busy.{is_busy}
use Rattle.heap_calls.specs.Inside.{inside, released, cast, owned_as}
use Rattle.fork_format.specs.Content.{Content}
use Rattle.fork_format.specs.Code.{content_or_code}
use Rattle.fork_format.specs.Fork.{map_kept}
use Rattle.res_map.specs.Split.{Split, removed, place}
use Rattle.res_map.specs.Map.{Reference, Map, has_handle, is_changed, is_named, is_of, is_resource, map_of, nth, of_type}
use Rattle.res_map.specs.Map.{split_nth, types}
use Rattle.std.specs.Option.{option_or}
use Rattle.res_calls.specs.Files.{File, OpenFile, Resources, Found, find_from_current, find_in_current, find_open, holding}
use Rattle.res_calls.specs.Files.{found_in, found_behind}
use Rattle.res_calls.specs.Files.{file_of, file_named, open_at, current_references, opened, fresh_resources}
use Rattle.res_calls.specs.Fetch.{Managers, Reads, Answer, done, refused, Fetched, fetch, Loaded, preload}
use Rattle.res_calls.specs.Owning.{references as references_of}
use Rattle.res_calls.specs.Update.{update}

-- The calls of the Resource Manager that open files, read resources and close files. More Macintosh Toolbox, chapter 1,
-- "Resource Manager Routines". A handle is given as the number that a name is bound to, or None for an unbound name.

-- The answer of a call on a found reference; -192 (resNotFound) where no reference was found.
-- See decision 43 (a search that finds no resource is -192).
abbrev pub on_found : {T : Type 0} → Option Found → Managers → (Found → Answer T) → Answer T
on_found None s answer = refused RES_NOT_FOUND s
on_found (Some at) s answer = answer at

-- The reference whose handle is the given one, in any open file.
abbrev pub resource_of : Option ℕ → Resources → Option Found
resource_of None r = None
resource_of (Some h) r = find_open (has_handle h) r

-- The answer of a call on the resource of a handle; -192 (resNotFound) where the handle is not a resource's.
abbrev pub on_resource : {T : Type 0} → Option ℕ → Managers → (Found → Answer T) → Answer T
on_resource handle s answer = on_found (resource_of handle s.resources) s answer

-- The answer of a call on an open file; -193 (resFNotFound) where the file is not open.
abbrev pub on_open : {T : Type 0} → Option (Split OpenFile) → Managers → (Split OpenFile → Answer T) → Answer T
on_open None s answer = refused RES_FILE_NOT_FOUND s
on_open (Some at) s answer = answer at

abbrev pub on_file : {T : Type 0} → ℕ → Managers → (Split OpenFile → Answer T) → Answer T
on_file n s answer = on_open (file_of n s.resources) s answer

-- The managers with the given resources, and the managers with the given heap.
abbrev pub with_resources : Resources → Managers → Managers
with_resources r s = record s { resources = r }

abbrev pub with_memory : Memory → Managers → Managers
with_memory m s = record s { memory = m }

-- The references of a file as the file is opened: where loading is on, those that have resPreload are read.
abbrev pub loaded_if : Bool → List Reference → Memory → Loaded
loaded_if loading references m =
    if loading then preload references m else record { references = references; memory = m; reads = [] }

abbrev pub loaded : OpenFile → Managers → Loaded
loaded f s = loaded_if s.resources.loading f.map.references s.memory

-- The open file with its resources preloaded.
abbrev pub with_loaded : Loaded → OpenFile → OpenFile
with_loaded l f = record f { map = record f.map { references = l.references } }

-- The answer of opening a file whose resources were preloaded; the file becomes current.
abbrev pub opened_with : Loaded → OpenFile → Managers → Answer ℕ
opened_with l f s = record {
  reply = Ok f.number;
  reads = l.reads;
  reading = None;
  after = record {
    memory = l.memory;
    resources = record s.resources {
      chain = with_loaded l f ∷ s.resources.chain;
      current = f.number;
      next = s.resources.next + 1;
    };
  };
}

abbrev pub open_as : OpenFile → Managers → Answer ℕ
open_as f s = opened_with (loaded f s) f s

-- The greatest number that an open file may have.
abbrev pub greatest_number : ℕ
greatest_number = 2147483647

-- The resource map of a content that was read, or the code for which none could be read.
abbrev pub map_read : Result Content OsErr → Result Map OsErr
map_read (Ok c) = Ok (map_of c)
map_read (Err code) = Err code

-- The resource map of a fork; -39 (eofErr) where the fork has no bytes, and -199 (mapReadErr) where the bytes are not a
-- resource fork.
abbrev pub map_in : List ℕ → Result Map OsErr
map_in fork = map_read (content_or_code fork)

-- The answer of opening a file that is not open yet. -30001 (profileErr) where the greatest number was already given to
-- a file.
abbrev pub open_map : ℕ → Result Map OsErr → Managers → Answer ℕ
open_map i (Err code) s = refused code s
open_map i (Ok read) s = open_as (opened s.resources.next (Some i) read) s

abbrev pub open_fork : ℕ → List ℕ → Managers → Answer ℕ
open_fork i fork s =
    if nat_lt greatest_number s.resources.next then refused PROFILE s else open_map i (map_in fork) s

abbrev pub open_unless : Split File → Option (Split OpenFile) → Managers → Answer ℕ
open_unless at (Some f) s = done f.here.number s
open_unless at None s = open_fork (place at) at.here.fork s

abbrev pub open_named : Option (Split File) → Managers → Answer ℕ
open_named None s = refused FILE_NOT_FOUND s
open_named (Some at) s = open_unless at (open_at (place at) s.resources) s

-- OpenResFile: opens the file whose name is `name`; -43 (fnfErr) where the application has no such file. Where the file
-- is already open, its number is returned, and the file and the current file stay as they are.
-- See decision 44 (a file that is opened again gets the next number).
abbrev pub open_res_file : List ℕ → Managers → Answer ℕ
open_res_file name s = open_named (file_named name s.resources) s

-- The heap after the given handles are disposed of, in order.
abbrev pub all_released : List ℕ → Memory → Memory
all_released [] m = m
all_released (h ∷ handles) m = all_released handles (inside (released h) m)

-- The handles of the references, in order.
abbrev pub handles_of : List Reference → List ℕ
handles_of references = filter_map (λ x. x.handle) references

-- The number of the first of the given open files, which is the file opened before; 0 where there is no file.
abbrev pub first_number : List OpenFile → ℕ
first_number [] = 0
first_number (f ∷ older) = f.number

-- The resources without an open file. Where the file was current, the file opened before it becomes current.
abbrev pub closed : Split OpenFile → Resources → Resources
closed at r = record r {
  chain = removed at;
  current = if r.current == at.here.number then first_number at.after else r.current;
}

-- The answer of a call that updates an open file first; -34 (dskFulErr) where the content does not fit the format, and
-- nothing is changed.
-- See decision 57 (-34 leaves everything as it was).
abbrev pub if_updated : {T : Type 0} → Option Resources → Managers → (Resources → Answer T) → Answer T
if_updated None s answer = refused DISK_FULL s
if_updated (Some r) s answer = answer r

abbrev pub on_updated : {T : Type 0} → Split OpenFile → Managers → (Resources → Answer T) → Answer T
on_updated at s answer = if_updated (update s.memory.heap at s.resources) s answer

-- The managers after an open file is closed and the handles of all its resources are disposed of.
abbrev pub closed_file : Split OpenFile → Resources → Managers → Managers
closed_file at r s = record {
  memory = all_released (handles_of at.here.map.references) s.memory;
  resources = closed at r;
}

-- CloseResFile: updates and closes an open file; -30001 (profileErr) for the System file, which stays open.
-- See decision 45 (the System file cannot be closed).
abbrev pub close_res_file : ℕ → Managers → Answer (Unit {0})
close_res_file n s = on_file n s (λ at.
    if n == 0 then refused PROFILE s else on_updated at s (λ r. done tt (closed_file at r s)))

-- UpdateResFile: updates an open file; nothing is done for the System file.
abbrev pub update_res_file : ℕ → Managers → Answer (Unit {0})
update_res_file n s = on_file n s (λ at.
    if n == 0 then done tt s else on_updated at s (λ r. done tt (with_resources r s)))

-- UseResFile: makes an open file the current file.
abbrev pub use_res_file : ℕ → Managers → Answer (Unit {0})
use_res_file n s = on_file n s (λ at. done tt (with_resources (record s.resources { current = n }) s))

-- CurResFile: returns the number of the current file.
abbrev pub cur_res_file : Managers → Answer ℕ
cur_res_file s = done s.resources.current s

-- The attributes of an open file's resource map, as they are told: mapReadOnly (128) as the map records it, and
-- mapChanged (32) where the file is touched. More Macintosh Toolbox, chapter 1, "Resource Fork Attributes".
-- See decision 239 (mapChanged says that a file is touched; mapReadOnly is recorded; mapCompact is never set).
abbrev pub attrs_told : OpenFile → ℕ
attrs_told f = bit_or (map_kept f.map.attrs) (if f.touched then 32 else 0)

-- GetResFileAttrs: returns the attributes of the resource map of an open file.
abbrev pub get_res_file_attrs : ℕ → Managers → Answer ℕ
get_res_file_attrs n s = on_file n s (λ at. done (attrs_told at.here) s)

-- HomeResFile: returns the number of the file that holds a resource.
abbrev pub home_res_file : Option ℕ → Managers → Answer ℕ
home_res_file handle s = on_resource handle s (λ at. done at.file.here.number s)

-- The fetch of a found reference, with loading on or off, and the fetch as SetResLoad has set loading.
abbrev pub fetched_as : Bool → Option Found → Managers → Answer Fetched
fetched_as loading found s = on_found found s (λ at. fetch loading at s)

abbrev pub fetched : Option Found → Managers → Answer Fetched
fetched found s = fetched_as s.resources.loading found s

-- GetResource and Get1Resource: fetch the first resource of a type and ID, on the search path and in the current file
-- alone.
abbrev pub get_resource : ℕ → ℤ → Managers → Answer Fetched
get_resource kind id s = fetched (find_from_current (is_resource kind id) s.resources) s

abbrev pub get1_resource : ℕ → ℤ → Managers → Answer Fetched
get1_resource kind id s = fetched (find_in_current (is_resource kind id) s.resources) s

-- GetNamedResource and Get1NamedResource: fetch the first resource of a type and name, on the search path and in the
-- current file alone.
abbrev pub get_named_resource : ℕ → List ℕ → Managers → Answer Fetched
get_named_resource kind text s = fetched (find_from_current (is_named kind text) s.resources) s

abbrev pub get1_named_resource : ℕ → List ℕ → Managers → Answer Fetched
get1_named_resource kind text s = fetched (find_in_current (is_named kind text) s.resources) s

-- The open files whose resources a call counts: the current file, or all open files together, the file opened last
-- first. More Macintosh Toolbox, chapter 1, "Counting and Listing Resource Types" and "Getting a Unique Resource ID".
-- See decision 235 (all open files are counted, whichever file is current).
pub data Among : Type 0 where
  Current : Among
  EachFile : Among

-- The types of the references of the current file, and of all open files together: each type once.
abbrev pub types_among : Among → Resources → List ℕ
types_among Current r = types (current_references r)
types_among EachFile r = types (references_of r.chain)

-- A count of all open files, as it is told.
-- See decision 236 (`CountResources` and `CountTypes` tell no greater number than 9223372036854775807).
abbrev pub told_count : ℕ → ℕ
told_count n = min n 9223372036854775807

abbrev pub count_told : Among → ℕ → ℕ
count_told Current n = n
count_told EachFile n = told_count n

-- CountTypes and Count1Types, GetIndType and Get1IndType: return the number of types, and the n-th of the types, counted
-- from 1, in all open files and in the current file; -192 (resNotFound) where there is no n-th type.
-- See decision 238 (a type of several open files counts once).
abbrev pub count_types : Among → Managers → Answer ℕ
count_types among s = done (count_told among (length (types_among among s.resources))) s

abbrev pub told_or : OsErr → Option ℕ → Managers → Answer ℕ
told_or code None s = refused code s
told_or code (Some n) s = done n s

abbrev pub get_ind_type : Among → ℕ → Managers → Answer ℕ
get_ind_type among n s = told_or RES_NOT_FOUND (nth n (types_among among s.resources)) s

-- The number of resources of a type in open files, one after the other.
abbrev pub count_each : ℕ → List OpenFile → ℕ
count_each kind [] = 0
count_each kind (f ∷ older) = length (of_type kind f.map.references) + count_each kind older

abbrev pub counted_among : Among → ℕ → Resources → ℕ
counted_among Current kind r = length (of_type kind (current_references r))
counted_among EachFile kind r = told_count (count_each kind r.chain)

-- CountResources and Count1Resources: return the number of resources of a type, in all open files and in the current
-- file.
abbrev pub count_resources : Among → ℕ → Managers → Answer ℕ
count_resources among kind s = done (counted_among among kind s.resources) s

-- A found reference, by its open file and its place in the file.
abbrev pub reference_in : Split OpenFile → Split Reference → Found
reference_in f x = record { file = f; reference = x }

-- The n-th reference of a type in an open file, counted from 1.
abbrev pub nth_in : ℕ → ℕ → Option (Split OpenFile) → Option Found
nth_in kind n None = None
nth_in kind n (Some f) = option_map (reference_in f) (split_nth n (is_of kind) f.here.map.references)

-- The n-th reference of a type in open files, one after the other, counted from 1.
abbrev pub nth_each : ℕ → ℕ → List OpenFile → Option Found
nth_each kind n [] = None
nth_each kind n (f ∷ older) = option_or
    (option_map (found_in f older) (split_nth n (is_of kind) f.map.references))
    (option_map (found_behind f) (nth_each kind (n - length (of_type kind f.map.references)) older))

abbrev pub nth_among : Among → ℕ → ℕ → Resources → Option Found
nth_among Current kind n r = nth_in kind n (file_of r.current r)
nth_among EachFile kind n r = nth_each kind n r.chain

-- GetIndResource and Get1IndResource: fetch the n-th resource of a type, in all open files and in the current file.
abbrev pub get_ind_resource : Among → ℕ → ℕ → Managers → Answer Fetched
get_ind_resource among kind n s = fetched (nth_among among kind n s.resources) s

-- Holds of an ID that a resource of a type has.
abbrev pub found_among : Among → (Reference → Bool) → Resources → Option Found
found_among Current test r = find_in_current test r
found_among EachFile test r = find_open test r

abbrev pub is_taken : Among → ℕ → Resources → ℕ → Bool
is_taken among kind r id = is_some (found_among among (is_resource kind (pos id)) r)

-- The first of so many IDs, from one on, that isn't taken.
unfoldable pub first_free : (ℕ → Bool) → ℕ → ℕ → Option ℕ
first_free taken zero id = None
first_free taken (suc n) id = elim (taken id) [
  | true ↦ first_free taken n (id + 1)
  | false ↦ Some id
]

-- The IDs from 128 to 32767: those below 128 are the System's.
abbrev pub lowest_id : ℕ
lowest_id = 128

abbrev pub all_ids : ℕ
all_ids = 32640

-- UniqueID and Unique1ID: return the lowest ID that no resource of a type has, in all open files and in the current
-- file; -30001 (profileErr) where all are taken.
-- See decision 237 (`UniqueID` returns the lowest ID from 128 on that is free).
abbrev pub unique_id : Among → ℕ → Managers → Answer ℕ
unique_id among kind s = told_or PROFILE (first_free (is_taken among kind s.resources) all_ids lowest_id) s

-- LoadResource: fetches the resource of a handle as with loading on, whatever SetResLoad has set.
abbrev pub load_resource : Option ℕ → Managers → Answer Fetched
load_resource handle s = fetched_as true (resource_of handle s.resources) s

-- Holds where the name is bound to a busy handle.
abbrev pub bars : Option ℕ → Memory → Bool
bars None m = false
bars (Some h) m = is_busy h m.log.busy

-- The managers after a resource's handle is disposed of.
abbrev pub released_at : Found → Option ℕ → Managers → Managers
released_at at None s = s
released_at at (Some h) s = record { memory = inside (released h) s.memory; resources = holding None at s.resources }

-- The managers after a resource's handle has become the application's own.
-- See decision 63 (a removed or detached handle is the application's own).
abbrev pub detached_at : Found → Option ℕ → Managers → Managers
detached_at at None s = s
detached_at at (Some h) s =
    record { memory = inside (cast (owned_as false) h) s.memory; resources = holding None at s.resources }

-- ReleaseResource: disposes of a resource's handle; -117 (memLockedErr) where the handle is busy. Nothing is done where
-- the resource was changed.
-- See decision 48 (`ReleaseResource` of a busy handle depends on its role).
abbrev pub release_found : Option ℕ → Managers → Found → Answer (Unit {0})
release_found handle s at = if bars handle s.memory then refused LOCKED s
    else if is_changed at.reference.here then done tt s else done tt (released_at at handle s)

abbrev pub release_resource : Option ℕ → Managers → Answer (Unit {0})
release_resource handle s = on_resource handle s (release_found handle s)

-- DetachResource: makes a resource's handle the application's own; -198 (resAttrErr) where the resource was changed.
abbrev pub detach_found : Option ℕ → Managers → Found → Answer (Unit {0})
detach_found handle s at = if is_changed at.reference.here then refused RES_ATTR s
    else done tt (detached_at at handle s)

abbrev pub detach_resource : Option ℕ → Managers → Answer (Unit {0})
detach_resource handle s = on_resource handle s (detach_found handle s)

-- GetResInfo: returns the ID, the type and the name of a resource; the name has no bytes where the resource has no
-- name.
pub record Info : Type 0 where
  pub id : ℤ
  pub kind : ℕ
  pub name : List ℕ

abbrev pub info_of : Reference → Info
info_of x = record { id = x.stored.id; kind = x.kind; name = unwrap_or x.stored.name [] }

abbrev pub get_res_info : Option ℕ → Managers → Answer Info
get_res_info handle s = on_resource handle s (λ at. done (info_of at.reference.here) s)

-- GetResAttrs: returns the attributes of a resource.
abbrev pub get_res_attrs : Option ℕ → Managers → Answer ℕ
get_res_attrs handle s = on_resource handle s (λ at. done at.reference.here.stored.attrs s)

-- GetResourceSizeOnDisk: returns the number of bytes in the stored data of a resource.
abbrev pub get_resource_size_on_disk : Option ℕ → Managers → Answer ℕ
get_resource_size_on_disk handle s = on_resource handle s (λ at. done (length at.reference.here.stored.datum) s)

-- SetResLoad: turns loading on or off.
abbrev pub set_res_load : Bool → Managers → Answer (Unit {0})
set_res_load on s = done tt (with_resources (record s.resources { loading = on }) s)

-- SetResPurge: turns on or off the storing of changed resources whose blocks are purged. More Macintosh Toolbox, chapter
-- 1, "SetResPurge".
abbrev pub set_res_purge : Bool → Managers → Answer (Unit {0})
set_res_purge on s = done tt (with_resources (record s.resources { purging = on }) s)

-- The managers where ResError returns the given code.
abbrev pub keep_error : OsErr → Managers → Managers
keep_error code s = record s { resources = record s.resources { error = code } }

-- The answer of a call after which ResError returns the call's code.
-- See decision 50 (`ResError` returns the code of the last call of its table).
abbrev pub noting : {T : Type 0} → (Managers → Answer T) → Managers → Answer T
noting call s = record (call s) { after = keep_error (code_of (call s).reply) (call s).after }

-- The resources of an application at its launch, with its own fork open; or the code why the fork cannot be read.
abbrev pub own_opened : List File → Result Map OsErr → Content → Result Resources OsErr
own_opened files (Err code) system = Err code
own_opened files (Ok own) system = Ok (fresh_resources files own (map_of system))

-- The resources of an application at its launch; the application's own fork is the fork of its first file.
abbrev pub launched_resources : List File → Content → Result Resources OsErr
launched_resources [] system = Err FILE_NOT_FOUND
launched_resources (f ∷ files) system = own_opened (f ∷ files) (map_in f.fork) system

-- The managers after the resources of the application's own fork are preloaded at the launch, and what was read.
abbrev pub preloaded_in : List OpenFile → Managers → Managers × Reads
preloaded_in [] s = (s, [])
preloaded_in (f ∷ older) s = (
  record {
    memory = (loaded f s).memory;
    resources = record s.resources { chain = with_loaded (loaded f s) f ∷ older };
  },
  (loaded f s).reads,
)

abbrev pub preloaded : Managers → Managers × Reads
preloaded s = preloaded_in s.resources.chain s
