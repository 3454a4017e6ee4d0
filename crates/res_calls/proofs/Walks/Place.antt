use Rattle.res_calls.proofs.Cited.{◌≡◌, ℕ, Bool, true, false, not, Option, Some, None, Result, Ok, Err, List, [], ◌∷◌, ℤ, ◌||◌, ◌&&◌, ◌++◌}
use Rattle.res_calls.proofs.Cited.{nat_le, length, refl, ◌∙◌, ap, cond, ◌==◌, nat_lt, ◌+◌, if◌then◌else◌, OsErr, IN_MEMORY, LOCKED, OFFSET}
use Rattle.res_calls.proofs.Cited.{PROFILE, RES_ATTR, ADD_RES_FAILED, REMOVE_RES_FAILED, WRITE_PERMISSION, DUPLICATE_FILE, DISK_FULL, Told}
use Rattle.res_calls.proofs.Cited.{Bytes, Done, Kind, Number, Map, map_in, open_map, Site, Split, place, replaced, Reference, is_preload}
use Rattle.res_calls.proofs.Cited.{is_changed, is_protected, is_resource, is_named, new_reference, renamed, resized_datum, Memory, Resource}
use Rattle.res_calls.proofs.Cited.{Known, code_of, handle_at, new_inside, new_empty_inside, refill_inside, has_block, resource_role, inside}
use Rattle.res_calls.proofs.Cited.{released, elsewhere, File, OpenFile, Resources, Found, opened, find_from_current, find_in_current}
use Rattle.res_calls.proofs.Cited.{file_of, file_named, open_at, Managers, Answer, done, refused, flags_of, is_system, now_filled}
use Rattle.res_calls.proofs.Cited.{now_empty, now_refilled, fetch_as, Loaded, given, preload_one, loaded_both, preload, on_found, on_open}
use Rattle.res_calls.proofs.Cited.{loaded, opened_with, open_as, open_fork, open_unless, open_named, greatest_number, all_released}
use Rattle.res_calls.proofs.Cited.{handles_of, closed, closed_file, bars, released_at, if_updated, on_updated, with_resources, update}
use Rattle.res_calls.proofs.Cited.{written, bytes_held, most_files, new_file, new_fork, with_files, create_named, on_known, added_to}
use Rattle.res_calls.proofs.Cited.{on_removable, removed_from, stored_if, touched, marked, with_changed, is_in_memory, read_part_found}
use Rattle.res_calls.proofs.Cited.{restored, restored_unless, size_refusal, write_refusal, detached_at, fetched, resource_of, told_or}
use Rattle.res_calls.proofs.Cited.{nth_among, keep_error, noting, ResourceAsked, Served, telling, tell_fetched, tell_info, served}
use Rattle.heap_calls.specs.Purging.{is_resource as is_owned}
use Rattle.res_calls.specs.Rows as rows
use Rattle.res_calls.specs.Changing as changing
use Rattle.res_calls.specs.Partial as partial
use Rattle.memory_windows.specs.Writes.{written as written_over}
use Rattle.res_calls.specs.Asked as asks
use Rattle.res_calls.proofs.Walks.Going.{all_done}

-- What a call comes to doesn't hang on where the heap lies.

-- the managers with the heap elsewhere; what they answer, load and come to
abbrev pub moved : Site → Managers → Managers
moved window s = record s { memory = elsewhere window s.memory }

abbrev pub answer_moved : {T : Type 0} → Site → Answer T → Answer T
answer_moved window a = record a { after = moved window a.after }

abbrev pub loaded_moved : Site → Loaded → Loaded
loaded_moved window l = record l { memory = elsewhere window l.memory }

abbrev pub served_moved : Site → Served → Served
served_moved window x = record x { after = moved window x.after }

pub found-place : {T : Type 0} (window : Site) (found : Option Found) (s : Managers) (there here : Found → Answer T)
    → ((at : Found) → there at ≡ answer_moved window (here at))
    → on_found found (moved window s) there ≡ answer_moved window (on_found found s here)
found-place window None s there here each = refl
found-place window (Some at) s there here each = each at

open-place : {T : Type 0} (window : Site) (o : Option (Split OpenFile)) (s : Managers)
    (there here : Split OpenFile → Answer T)
    → ((at : Split OpenFile) → there at ≡ answer_moved window (here at))
    → on_open o (moved window s) there ≡ answer_moved window (on_open o s here)
open-place window None s there here each = refl
open-place window (Some at) s there here each = each at

-- a fetch
filled-place : (window : Site) (at : Found) (s : Managers) (x : Result ℕ OsErr × Memory)
    → now_filled at (x.0, elsewhere window x.1) (moved window s) ≡ answer_moved window (now_filled at x s)
filled-place window at s (Ok h, m) = refl
filled-place window at s (Err code, m) = refl

emptied-place : (window : Site) (at : Found) (s : Managers) (x : Result ℕ OsErr × Memory)
    → now_empty at (x.0, elsewhere window x.1) (moved window s) ≡ answer_moved window (now_empty at x s)
emptied-place window at s (Ok h, m) = refl
emptied-place window at s (Err code, m) = refl

refilled-place : (window : Site) (at : Found) (h : ℕ) (s : Managers) (x : Result (Unit {0}) OsErr × Memory)
    → now_refilled at h (x.0, elsewhere window x.1) (moved window s) ≡ answer_moved window (now_refilled at h x s)
refilled-place window at h s (Ok value, m) = refl
refilled-place window at h s (Err code, m) = refl

pub fetch-place : (window : Site) (loading : Bool) (at : Found) (handle : Option ℕ) (s : Managers)
    → fetch_as loading at handle (moved window s) ≡ answer_moved window (fetch_as loading at handle s)
fetch-place window true at None s = filled-place window at s (new_inside (resource_role (is_system at.file.here))
    (flags_of at.reference.here) at.reference.here.stored.datum s.memory)
fetch-place window false at None s =
    emptied-place window at s (new_empty_inside (resource_role (is_system at.file.here)) s.memory)
fetch-place window true at (Some h) s = by_block (has_block h s.memory.heap)
  where
    filling : Memory → Result (Unit {0}) OsErr × Memory
    filling m = refill_inside h (flags_of at.reference.here) at.reference.here.stored.datum m

    by_block : (t : Bool)
        → cond (not t) (now_refilled at h (filling (elsewhere window s.memory)) (moved window s))
        (done (record { handle = h; read = 0 }) (moved window s))
        ≡ answer_moved window (cond (not t) (now_refilled at h (filling s.memory) s)
        (done (record { handle = h; read = 0 }) s))
    by_block true = refl
    by_block false = refilled-place window at h s (filling s.memory)
fetch-place window false at (Some h) s = refl

fetched-place : (window : Site) (found : Option Found) (s : Managers)
    → fetched found (moved window s) ≡ answer_moved window (fetched found s)
fetched-place window found s = found-place window found s _ _
    (λ at. fetch-place window s.resources.loading at at.reference.here.handle s)

-- an opening
given-place : (window : Site) (x : Reference) (y : Result ℕ OsErr × Memory)
    → given x (y.0, elsewhere window y.1) ≡ loaded_moved window (given x y)
given-place window x (Ok h, m) = refl
given-place window x (Err code, m) = refl

pub one-place : (window : Site) (x : Reference) (m : Memory)
    → preload_one x (elsewhere window m) ≡ loaded_moved window (preload_one x m)
one-place window x m = by_bit (is_preload x)
  where
    unread : Memory → Loaded
    unread n = record { references = x ∷ []; memory = n; reads = [] }

    by_bit : (t : Bool)
        → cond t (given x (new_inside Resource (flags_of x) x.stored.datum (elsewhere window m)))
        (unread (elsewhere window m))
        ≡ loaded_moved window (cond t (given x (new_inside Resource (flags_of x) x.stored.datum m)) (unread m))
    by_bit true = given-place window x (new_inside Resource (flags_of x) x.stored.datum m)
    by_bit false = refl

preload-place : (window : Site) (references : List Reference) (m : Memory)
    → preload references (elsewhere window m) ≡ loaded_moved window (preload references m)
preload-place window [] m = refl
preload-place window (x ∷ references) m =
    ap (λ (one : Loaded). loaded_both one (preload references one.memory)) (one-place window x m)
    ∙ ap (loaded_both (loaded_moved window (preload_one x m)))
    (preload-place window references (preload_one x m).memory)

pub loaded-place : (window : Site) (f : OpenFile) (s : Managers)
    → loaded f (moved window s) ≡ loaded_moved window (loaded f s)
loaded-place window f s = by_loading s.resources.loading
  where
    unread : Memory → Loaded
    unread n = record { references = f.map.references; memory = n; reads = [] }

    by_loading : (t : Bool)
        → cond t (preload f.map.references (elsewhere window s.memory)) (unread (elsewhere window s.memory))
        ≡ loaded_moved window (cond t (preload f.map.references s.memory) (unread s.memory))
    by_loading true = preload-place window f.map.references s.memory
    by_loading false = refl

opened-place : (window : Site) (f : OpenFile) (s : Managers)
    → open_as f (moved window s) ≡ answer_moved window (open_as f s)
opened-place window f s = ap (λ (l : Loaded). opened_with l f (moved window s)) (loaded-place window f s)

map-place : (window : Site) (i : ℕ) (read : Result Map OsErr) (s : Managers)
    → open_map i read (moved window s) ≡ answer_moved window (open_map i read s)
map-place window i (Err code) s = refl
map-place window i (Ok read) s = opened-place window (opened s.resources.next (Some i) read) s

fork-place : (window : Site) (i : ℕ) (fork : List ℕ) (s : Managers)
    → open_fork i fork (moved window s) ≡ answer_moved window (open_fork i fork s)
fork-place window i fork s = by_number (nat_lt greatest_number s.resources.next)
  where
    by_number : (full : Bool)
        → cond full (refused PROFILE (moved window s)) (open_map i (map_in fork) (moved window s))
        ≡ answer_moved window (cond full (refused PROFILE s) (open_map i (map_in fork) s))
    by_number true = refl
    by_number false = map-place window i (map_in fork) s

unless-place : (window : Site) (at : Split File) (o : Option (Split OpenFile)) (s : Managers)
    → open_unless at o (moved window s) ≡ answer_moved window (open_unless at o s)
unless-place window at None s = fork-place window (place at) at.here.fork s
unless-place window at (Some f) s = refl

named-place : (window : Site) (o : Option (Split File)) (s : Managers)
    → open_named o (moved window s) ≡ answer_moved window (open_named o s)
named-place window None s = refl
named-place window (Some at) s = unless-place window at (open_at (place at) s.resources) s

-- a closing
pub releases-place : (window : Site) (handles : List ℕ) (m : Memory)
    → all_released handles (elsewhere window m) ≡ elsewhere window (all_released handles m)
releases-place window [] m = refl
releases-place window (h ∷ handles) m = releases-place window handles (inside (released h) m)

closed-place : (window : Site) (o : Option Resources) (at : Split OpenFile) (s : Managers)
    → if_updated o (moved window s) (λ r. done all_done (closed_file at r (moved window s)))
    ≡ answer_moved window (if_updated o s (λ r. done all_done (closed_file at r s)))
closed-place window None at s = refl
closed-place window (Some r) at s =
    ap (λ (m : Memory). done all_done (record { memory = m; resources = closed at r }))
    (releases-place window (handles_of at.here.map.references) s.memory)

close-place : (window : Site) (at : Split OpenFile) (s : Managers) (t : Bool)
    → (if t then refused PROFILE (moved window s)
    else on_updated at (moved window s) (λ r. done all_done (closed_file at r (moved window s))))
    ≡ answer_moved window (if t then refused PROFILE s else on_updated at s (λ r. done all_done (closed_file at r s)))
close-place window at s true = refl
close-place window at s false = closed-place window (update s.memory.heap at s.resources) at s

-- an update, and a file that is made
updated-place : (window : Site) (o : Option Resources) (s : Managers)
    → if_updated o (moved window s) (λ r. done all_done (with_resources r (moved window s)))
    ≡ answer_moved window (if_updated o s (λ r. done all_done (with_resources r s)))
updated-place window None s = refl
updated-place window (Some r) s = refl

update-place : (window : Site) (at : Split OpenFile) (s : Managers) (t : Bool)
    → (if t then done all_done (moved window s)
    else on_updated at (moved window s) (λ r. done all_done (with_resources r (moved window s))))
    ≡ answer_moved window (if t then done all_done s else on_updated at s (λ r. done all_done (with_resources r s)))
update-place window at s true = refl
update-place window at s false = updated-place window (update s.memory.heap at s.resources) s

create-place : (window : Site) (name : List ℕ) (o : Option (Split File)) (s : Managers)
    → create_named name o (moved window s) ≡ answer_moved window (create_named name o s)
create-place window name None s = by_count (nat_le most_files (length s.resources.files))
  where
    creating : Managers → Bool → Answer (Unit {0})
    creating n full = if full then refused DISK_FULL n
        else done all_done (with_files (n.resources.files ++ new_file name ∷ []) n)

    by_count : (full : Bool) → creating (moved window s) full ≡ answer_moved window (creating s full)
    by_count true = refl
    by_count false = refl
create-place window name (Some at) s = by_fork (length at.here.fork == 0)
  where
    creating : Managers → Bool → Answer (Unit {0})
    creating n empty = if empty then done all_done (with_files (written (place at) new_fork n.resources.files) n)
        else refused DUPLICATE_FILE n

    by_fork : (empty : Bool) → creating (moved window s) empty ≡ answer_moved window (creating s empty)
    by_fork true = refl
    by_fork false = refl

-- a handle of the heap; one that becomes a resource's, and one of a resource that is removed
known-place : {T : Type 0} (window : Site) (x : Result Known OsErr) (s : Managers) (there here : Known → Answer T)
    → ((k : Known) → there k ≡ answer_moved window (here k))
    → on_known x (moved window s) there ≡ answer_moved window (on_known x s here)
known-place window (Err code) s there here each = refl
known-place window (Ok k) s there here each = each k

abbrev adding : (Managers → Split OpenFile → Answer (Unit {0})) → Managers → Bool → Bool → Answer (Unit {0})
adding one s bad system =
    if bad then refused ADD_RES_FAILED s
    else if system then refused WRITE_PERMISSION s
    else on_open (file_of s.resources.current s.resources) s (one s)

abbrev adds : ℕ → ℤ → List ℕ → Known → Managers → Split OpenFile → Answer (Unit {0})
adds kind id name k s at = done all_done (added_to at (new_reference kind id name k.number) k.number s)

add-place : (window : Site) (kind : ℕ) (id : ℤ) (name : List ℕ) (k : Known) (s : Managers) (bad system : Bool)
    → adding (adds kind id name k) (moved window s) bad system
    ≡ answer_moved window (adding (adds kind id name k) s bad system)
add-place window kind id name k s true system = refl
add-place window kind id name k s false true = refl
add-place window kind id name k s false false =
    open-place window (file_of s.resources.current s.resources) s _ _ (λ at. refl)

removable-place : {T : Type 0} (window : Site) (found : Option Found) (s : Managers)
    (there here : Found → Answer T) → ((at : Found) → there at ≡ answer_moved window (here at))
    → on_removable found (moved window s) there ≡ answer_moved window (on_removable found s here)
removable-place window None s there here each = refl
removable-place window (Some at) s there here each = each at

abbrev removing : Known → Found → Managers → Bool → Bool → Answer (Unit {0})
removing k at s system kept =
    if system then refused WRITE_PERMISSION s
    else if kept then refused REMOVE_RES_FAILED s
    else done all_done (removed_from at k.number s)

remove-place : (window : Site) (k : Known) (at : Found) (s : Managers) (system kept : Bool)
    → removing k at (moved window s) system kept ≡ answer_moved window (removing k at s system kept)
remove-place window k at s true kept = refl
remove-place window k at s false true = refl
remove-place window k at s false false = refl

-- changes of a resource
abbrev changing_to : Resources → Managers → Bool → Bool → Answer (Unit {0})
changing_to r s system kept =
    if system then refused WRITE_PERMISSION s
    else if kept then refused RES_ATTR s
    else done all_done (with_resources r s)

change-place : (window : Site) (r : Resources) (s : Managers) (system kept : Bool)
    → changing_to r (moved window s) system kept ≡ answer_moved window (changing_to r s system kept)
change-place window r s true kept = refl
change-place window r s false true = refl
change-place window r s false false = refl

stored-place : (window : Site) (bytes : Option (List ℕ)) (at : Found) (s : Managers)
    → done all_done (stored_if bytes at (moved window s)) ≡ answer_moved window (done all_done (stored_if bytes at s))
stored-place window None at s = refl
stored-place window (Some bytes) at s = refl

abbrev writing : Option (List ℕ) → Found → Managers → Bool → Answer (Unit {0})
writing bytes at s t = if t then done all_done (stored_if bytes at s) else done all_done s

write-place : (window : Site) (bytes : Option (List ℕ)) (at : Found) (s : Managers) (t : Bool)
    → writing bytes at (moved window s) t ≡ answer_moved window (writing bytes at s t)
write-place window bytes at s true = stored-place window bytes at s
write-place window bytes at s false = refl

-- a release, and a detaching
bars-place : (window : Site) (handle : Option ℕ) (m : Memory) → bars handle (elsewhere window m) ≡ bars handle m
bars-place window None m = refl
bars-place window (Some h) m = refl

abbrev releasing : Option ℕ → Found → Managers → Bool → Bool → Answer (Unit {0})
releasing handle at s busy changed =
    if busy then refused LOCKED s else if changed then done all_done s else done all_done (released_at at handle s)

releasing-place : (window : Site) (handle : Option ℕ) (at : Found) (s : Managers) (busy changed : Bool)
    → releasing handle at (moved window s) busy changed ≡ answer_moved window (releasing handle at s busy changed)
releasing-place window handle at s true changed = refl
releasing-place window handle at s false true = refl
releasing-place window None at s false false = refl
releasing-place window (Some h) at s false false = refl

release-place : (window : Site) (handle : Option ℕ) (at : Found) (s : Managers)
    → releasing handle at (moved window s) (bars handle (elsewhere window s.memory)) (is_changed at.reference.here)
    ≡ answer_moved window (releasing handle at s (bars handle s.memory) (is_changed at.reference.here))
release-place window handle at s =
    ap (λ (t : Bool). releasing handle at (moved window s) t (is_changed at.reference.here))
    (bars-place window handle s.memory)
    ∙ releasing-place window handle at s (bars handle s.memory) (is_changed at.reference.here)

abbrev detaching : Option ℕ → Found → Managers → Bool → Answer (Unit {0})
detaching handle at s changed = if changed then refused RES_ATTR s else done all_done (detached_at at handle s)

detach-place : (window : Site) (handle : Option ℕ) (at : Found) (s : Managers) (changed : Bool)
    → detaching handle at (moved window s) changed ≡ answer_moved window (detaching handle at s changed)
detach-place window handle at s true = refl
detach-place window None at s false = refl
detach-place window (Some h) at s false = refl

told_or-place : (window : Site) (code : OsErr) (o : Option ℕ) (s : Managers)
    → told_or code o (moved window s) ≡ answer_moved window (told_or code o s)
told_or-place window code None s = refl
told_or-place window code (Some n) s = refl

-- one of two answers
either-place : {T : Type 0} (window : Site) (t : Bool) (one other one' other' : Answer T) → one ≡ answer_moved window one'
    → other ≡ answer_moved window other' → cond t one other ≡ answer_moved window (cond t one' other')
either-place window true one other one' other' first second = first
either-place window false one other one' other' first second = second

-- a part that is read, and one that is written
read_part-place : (window : Site) (handle : Option ℕ) (from n : ℕ) (at : Found) (s : Managers)
    → read_part_found handle from n (moved window s) at ≡ answer_moved window (read_part_found handle from n s at)
read_part-place window handle from n at s =
    either-place window (nat_lt (length at.reference.here.stored.datum) (from + n)) (refused OFFSET (moved window s)) _
    (refused OFFSET s) _ refl
    (either-place window (is_in_memory handle s.memory.heap) (refused IN_MEMORY (moved window s)) _ (refused IN_MEMORY s) _
    refl refl)

restored-place : (window : Site) (o : Option OsErr) (handle : Option ℕ) (change : List ℕ → List ℕ) (at : Found)
    (s : Managers)
    → restored_unless o handle change at (moved window s) ≡ answer_moved window (restored_unless o handle change at s)
restored-place window (Some code) handle change at s = refl
restored-place window None handle change at s =
    either-place window (is_in_memory handle s.memory.heap)
    (refused IN_MEMORY (with_resources (restored change at s.resources) (moved window s))) _
    (refused IN_MEMORY (with_resources (restored change at s.resources) s)) _ refl refl

-- the attributes of a file
set_file-place : (window : Site) (n attrs : ℕ) (o : Option (Split OpenFile)) (s : Managers)
    → changing.set_file n attrs o (moved window s) ≡ answer_moved window (changing.set_file n attrs o s)
set_file-place window n attrs None s = refl
set_file-place window n attrs (Some at) s =
    either-place window (n == 0) (refused WRITE_PERMISSION (moved window s)) _ (refused WRITE_PERMISSION s) _ refl refl

-- what is told
telling-place : {T : Type 0} (window : Site) (tell : T → Told) (call : Managers → Answer T) (s : Managers)
    → call (moved window s) ≡ answer_moved window (call s)
    → telling tell (noting call (moved window s)) ≡ served_moved window (telling tell (noting call s))
telling-place {T} window tell call s e = ap (λ (a : Answer T).
    let noted : Answer T = record a { after = keep_error (code_of a.reply) a.after } in telling tell noted) e

pub served-elsewhere : (window : Site) (a : ResourceAsked) (s : Managers)
    → served a (moved window s) ≡ served_moved window (served a s)
served-elsewhere window (asks.OpenResFile name) s = telling-place window Number (rows.open_res_file name) s
    (named-place window (file_named name s.resources) s)
served-elsewhere window (asks.CloseResFile n) s = telling-place window (λ x. Done) (rows.close_res_file n) s
    (open-place window (file_of n s.resources) s _ _ (λ at. close-place window at s (n == 0)))
served-elsewhere window (asks.UseResFile n) s = telling-place window (λ x. Done) (rows.use_res_file n) s
    (open-place window (file_of n s.resources) s _ _ (λ at. refl))
served-elsewhere window asks.CurResFile s = refl
served-elsewhere window (asks.GetResFileAttrs n) s = telling-place window Number (rows.get_res_file_attrs n) s
    (open-place window (file_of n s.resources) s _ _ (λ at. refl))
served-elsewhere window (asks.SetResFileAttrs n attrs) s =
    telling-place window (λ x. Done) (changing.set_res_file_attrs n attrs) s
    (set_file-place window n attrs (file_of n s.resources) s)
served-elsewhere window (asks.HomeResFile handle) s = telling-place window Number (rows.home_res_file handle) s
    (found-place window (resource_of handle s.resources) s _ _ (λ at. refl))
served-elsewhere window (asks.GetResource kind id) s = telling-place window tell_fetched (rows.get_resource kind id) s
    (fetched-place window (find_from_current (is_resource kind id) s.resources) s)
served-elsewhere window (asks.Get1Resource kind id) s =
    telling-place window tell_fetched (rows.get1_resource kind id) s
    (fetched-place window (find_in_current (is_resource kind id) s.resources) s)
served-elsewhere window (asks.GetNamedResource kind name) s =
    telling-place window tell_fetched (rows.get_named_resource kind name) s
    (fetched-place window (find_from_current (is_named kind name) s.resources) s)
served-elsewhere window (asks.Get1NamedResource kind name) s =
    telling-place window tell_fetched (rows.get1_named_resource kind name) s
    (fetched-place window (find_in_current (is_named kind name) s.resources) s)
served-elsewhere window (asks.CountTypes among) s = refl
served-elsewhere window (asks.GetIndType among index) s = telling-place window Kind (rows.get_ind_type among index) s
    (told_or-place window _ _ s)
served-elsewhere window (asks.CountResources among kind) s = refl
served-elsewhere window (asks.GetIndResource among kind index) s =
    telling-place window tell_fetched (rows.get_ind_resource among kind index) s
    (fetched-place window (nth_among among kind index s.resources) s)
served-elsewhere window (asks.UniqueID among kind) s = telling-place window Number (rows.unique_id among kind) s
    (told_or-place window _ _ s)
served-elsewhere window (asks.LoadResource handle) s = telling-place window tell_fetched (rows.load_resource handle) s
    (found-place window (resource_of handle s.resources) s _ _
    (λ at. fetch-place window true at at.reference.here.handle s))
served-elsewhere window (asks.ReleaseResource handle) s =
    telling-place window (λ x. Done) (rows.release_resource handle) s
    (found-place window (resource_of handle s.resources) s _ _ (λ at. release-place window handle at s))
served-elsewhere window (asks.DetachResource handle) s =
    telling-place window (λ x. Done) (rows.detach_resource handle) s
    (found-place window (resource_of handle s.resources) s _ _
    (λ at. detach-place window handle at s (is_changed at.reference.here)))
served-elsewhere window (asks.GetResInfo handle) s = telling-place window tell_info (rows.get_res_info handle) s
    (found-place window (resource_of handle s.resources) s _ _ (λ at. refl))
served-elsewhere window (asks.GetResAttrs handle) s = telling-place window Number (rows.get_res_attrs handle) s
    (found-place window (resource_of handle s.resources) s _ _ (λ at. refl))
served-elsewhere window (asks.GetResourceSizeOnDisk handle) s =
    telling-place window Number (rows.get_resource_size_on_disk handle) s
    (found-place window (resource_of handle s.resources) s _ _ (λ at. refl))
served-elsewhere window (asks.ReadPartialResource handle from n) s =
    telling-place window Bytes (partial.read_partial_resource handle from n) s
    (found-place window (resource_of handle s.resources) s _ _ (λ at. read_part-place window handle from n at s))
served-elsewhere window (asks.WritePartialResource handle from x) s =
    telling-place window (λ x. Done) (partial.write_partial_resource handle from x) s
    (found-place window (resource_of handle s.resources) s _ _
    (λ at. restored-place window (write_refusal from (length x) at) handle (written_over from x) at s))
served-elsewhere window (asks.SetResourceSize handle n) s =
    telling-place window (λ x. Done) (partial.set_resource_size handle n) s
    (found-place window (resource_of handle s.resources) s _ _
    (λ at. restored-place window (size_refusal n at) handle (resized_datum n) at s))
served-elsewhere window (asks.SetResPurge on) s = refl
served-elsewhere window (asks.SetResLoad on) s = refl
served-elsewhere window (asks.CreateResFile name) s =
    telling-place window (λ x. Done) (changing.create_res_file name) s
    (create-place window name (file_named name s.resources) s)
served-elsewhere window (asks.UpdateResFile n) s = telling-place window (λ x. Done) (rows.update_res_file n) s
    (open-place window (file_of n s.resources) s _ _ (λ at. update-place window at s (n == 0)))
served-elsewhere window (asks.AddResource handle kind id name) s =
    telling-place window (λ x. Done) (changing.add_resource handle kind id name) s
    (known-place window (handle_at handle s.memory.heap) s _ _ (λ k. add-place window kind id name k s
    (is_owned k.role || not (has_block k.number s.memory.heap)) (s.resources.current == 0)))
served-elsewhere window (asks.RemoveResource handle) s =
    telling-place window (λ x. Done) (changing.remove_resource handle) s
    (known-place window (handle_at handle s.memory.heap) s _ _
    (λ k. removable-place window (resource_of handle s.resources) s _ _
    (λ at. remove-place window k at s (is_system at.file.here)
    (not (at.file.here.number == s.resources.current) || is_protected at.reference.here))))
served-elsewhere window (asks.ChangedResource handle) s =
    telling-place window (λ x. Done) (changing.changed_resource handle) s
    (found-place window (resource_of handle s.resources) s _ _ (λ at. change-place window
    (touched at.file (replaced (marked at.reference.here) at.reference) s.resources) s
    (is_system at.file.here) (is_protected at.reference.here)))
served-elsewhere window (asks.WriteResource handle) s =
    telling-place window (λ x. Done) (changing.write_resource handle) s
    (found-place window (resource_of handle s.resources) s _ _
    (λ at. write-place window (bytes_held handle s.memory.heap) at s
    (is_changed at.reference.here && not (is_protected at.reference.here))))
served-elsewhere window (asks.SetResInfo handle id name) s =
    telling-place window (λ x. Done) (changing.set_res_info handle id name) s
    (found-place window (resource_of handle s.resources) s _ _ (λ at. change-place window
    (with_changed (renamed id name at.reference.here) at s).resources s
    (is_system at.file.here) (is_protected at.reference.here)))
served-elsewhere window (asks.SetResAttrs handle attrs) s =
    telling-place window (λ x. Done) (changing.set_res_attrs handle attrs) s
    (found-place window (resource_of handle s.resources) s _ _ (λ at. refl))
served-elsewhere window asks.ResError s = refl
