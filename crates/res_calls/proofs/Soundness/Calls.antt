use Rattle.res_calls.proofs.Cited.{◌≡◌, ℕ, ℤ, ◌<◌, ◌+◌, Bool, true, false, not, ◌&&◌, ◌||◌, ◌==◌, nat_lt, nat_le, List, [], ◌∷◌, ◌++◌, refl}
use Rattle.res_calls.proofs.Cited.{◌∙◌, ap, arith, length, Option, Some, None, Result, Ok, Err, length-append, is_some, set, OsErr, LOCKED}
use Rattle.res_calls.proofs.Cited.{PROFILE, RES_ATTR, WRITE_PERMISSION, DISK_FULL, ADD_RES_FAILED, REMOVE_RES_FAILED, DUPLICATE_FILE}
use Rattle.res_calls.proofs.Cited.{IN_MEMORY, OFFSET, Memory, Role, handle_at, new_inside, new_empty_inside, refill_inside, has_block}
use Rattle.res_calls.proofs.Cited.{resource_role, Split, place, removed, replaced, Reference, Map, is_changed, is_protected, is_named}
use Rattle.res_calls.proofs.Cited.{added, new_reference, renamed, resized_datum, stored_anew, with_attrs, with_datum, split-whole}
use Rattle.res_calls.proofs.Cited.{split-inside, File, OpenFile, Resources, Found, find, file_of, file_named, open_at, opened}
use Rattle.res_calls.proofs.Cited.{with_reference, Managers, done, refused, flags_of, now_filled, now_empty, now_refilled, fetch_as}
use Rattle.res_calls.proofs.Cited.{is_system, bytes_held, written, map_in, open_map, open_unless, open_named, greatest_number, resource_of}
use Rattle.res_calls.proofs.Cited.{released_at, Among, detached_at, bars, nth_among, closed_file, with_resources, loaded, create_named}
use Rattle.res_calls.proofs.Cited.{most_files, marked, set_file, stored_if, touched, with_changed, with_map_attrs, is_in_memory}
use Rattle.res_calls.proofs.Cited.{read_part_found, restored, restored_unless, set_size_found, size_refusal, write_part_found}
use Rattle.res_calls.proofs.Cited.{write_refusal, piece, Sound, keeps_handle, release_found, detach_found, change_found, write_found}
use Rattle.res_calls.proofs.Cited.{rename_found, set_found, remove_found, add_found}
use Rattle.heap_calls.specs.Purging.{is_resource as is_owner}
use Rattle.res_map.specs.Map.{is_resource as is_wanted}
use Rattle.res_calls.specs.Rows as rows
use Rattle.res_calls.specs.Changing as changing
use Rattle.res_calls.specs.Partial as partial
use Rattle.memory_windows.specs.Writes.{written as written_over}
use Rattle.res_calls.proofs.Keeping.{either-keeps, found-keeps, open-keeps, known-keeps, removable-keeps, free-keeps}
use Rattle.res_calls.proofs.Keeping.{own-first, updated-keeps, update-comes}
use Rattle.res_calls.proofs.Owning.Places.{Stands, find-finds, among-stands}
use Rattle.res_calls.proofs.Owning.Calls.{resource-holds, own-file}
use Rattle.res_calls.proofs.Soundness.Lists.{all-replaced, all-removed}
use Rattle.res_calls.proofs.Soundness.References.{held-keeps, plain-keeps, anew-keeps, added-keep, loaded-keeps}
use Rattle.res_calls.proofs.Soundness.Forks.{Fresh, map-fresh}
use Rattle.res_calls.proofs.Soundness.Changes.{sound-attrs, sound-touched, sound-reference, sound-files, written-many}
use Rattle.res_calls.proofs.Soundness.Changes.{sound-rewritten, sound-closed, sound-closed-written, sound-opened}

-- Each call keeps what holds of the open files.

-- of the resources beside a heap
abbrev pub Sound_in : Managers → Type 0
Sound_in s = Sound s.resources

-- a new handle, with its datum or emptied
filled-sound : (at : Found) (s : Managers) → Stands s.resources.chain at → Sound_in s
    → (x : Result ℕ OsErr × Memory) → Sound_in (now_filled at x s).after
filled-sound at s stands sound (Err code, m) = sound
filled-sound at s stands sound (Ok n, m) =
    sound-reference s.resources at (record at.reference.here { handle = Some n }) stands
    (held-keeps (record at.reference.here { handle = Some n }) n refl) sound

emptied-sound : (at : Found) (s : Managers) → Stands s.resources.chain at → Sound_in s
    → (x : Result ℕ OsErr × Memory) → Sound_in (now_empty at x s).after
emptied-sound at s stands sound (Err code, m) = sound
emptied-sound at s stands sound (Ok n, m) =
    sound-reference s.resources at (record at.reference.here { handle = Some n }) stands
    (held-keeps (record at.reference.here { handle = Some n }) n refl) sound

refilled-sound : (at : Found) (k : ℕ) (s : Managers) → Sound_in s → (x : Result (Unit {0}) OsErr × Memory)
    → Sound_in (now_refilled at k x s).after
refilled-sound at k s sound (Err code, m) = sound
refilled-sound at k s sound (Ok value, m) = sound

-- a fetch
pub fetch_sound : (loading : Bool) (at : Found) (s : Managers) (o : Option ℕ) → Stands s.resources.chain at
    → Sound s.resources → Sound (fetch_as loading at o s).after.resources
fetch_sound true at s None stands sound =
    filled-sound at s stands sound (new_inside (resource_role (is_system at.file.here)) (flags_of at.reference.here)
    at.reference.here.stored.datum s.memory)
fetch_sound false at s None stands sound =
    emptied-sound at s stands sound (new_empty_inside (resource_role (is_system at.file.here)) s.memory)
fetch_sound loading at s (Some k) stands sound =
    either-keeps Sound_in (loading && not (has_block k s.memory.heap)) _
    (done (record { handle = k; read = 0 }) s)
    (λ again. refilled-sound at k s sound
    (refill_inside k (flags_of at.reference.here) at.reference.here.stored.datum s.memory)) (λ there. sound)

pub fetched_sound : (found : Option Found) (loading : Bool) (s : Managers)
    → ((at : Found) → found ≡ Some at → Stands s.resources.chain at) → Sound s.resources
    → Sound (rows.on_found found s (λ at. fetch_as loading at at.reference.here.handle s)).after.resources
fetched_sound found loading s stands sound =
    found-keeps Sound_in found s _ sound
    (λ at e. fetch_sound loading at s at.reference.here.handle (stands at e) sound)

pub searched_sound : (within : OpenFile → Bool) (test : Reference → Bool) (loading : Bool) (s : Managers)
    → Sound s.resources
    → Sound (rows.on_found (find within test s.resources.chain) s
    (λ at. fetch_as loading at at.reference.here.handle s)).after.resources
searched_sound within test loading s sound =
    fetched_sound (find within test s.resources.chain) loading s
    (λ at e. (find-finds within test s.resources.chain at e).0) sound

-- GetResource, Get1Resource, GetNamedResource, Get1NamedResource, GetIndResource, Get1IndResource
pub get_resource_sound : (kind : ℕ) (id : ℤ) (s : Managers) → Sound s.resources
    → Sound (rows.get_resource kind id s).after.resources
get_resource_sound kind id s sound =
    searched_sound (λ f. nat_le f.number s.resources.current) (is_wanted kind id) s.resources.loading s sound

pub get1_resource_sound : (kind : ℕ) (id : ℤ) (s : Managers) → Sound s.resources
    → Sound (rows.get1_resource kind id s).after.resources
get1_resource_sound kind id s sound =
    searched_sound (λ f. f.number == s.resources.current) (is_wanted kind id) s.resources.loading s sound

pub get_named_resource_sound : (kind : ℕ) (name : List ℕ) (s : Managers) → Sound s.resources
    → Sound (rows.get_named_resource kind name s).after.resources
get_named_resource_sound kind name s sound =
    searched_sound (λ f. nat_le f.number s.resources.current) (is_named kind name) s.resources.loading s sound

pub get1_named_resource_sound : (kind : ℕ) (name : List ℕ) (s : Managers) → Sound s.resources
    → Sound (rows.get1_named_resource kind name s).after.resources
get1_named_resource_sound kind name s sound =
    searched_sound (λ f. f.number == s.resources.current) (is_named kind name) s.resources.loading s sound

pub get_ind_resource_sound : (among : Among) (kind n : ℕ) (s : Managers) → Sound s.resources
    → Sound (rows.get_ind_resource among kind n s).after.resources
get_ind_resource_sound among kind n s sound =
    fetched_sound (nth_among among kind n s.resources) s.resources.loading s
    (λ at e. among-stands among kind n s.resources at e) sound

-- LoadResource
pub load_resource_sound : (handle : Option ℕ) (s : Managers) → Sound s.resources
    → Sound (rows.load_resource handle s).after.resources
load_resource_sound handle s sound =
    fetched_sound (resource_of handle s.resources) true s (λ at e. (resource-holds handle s at e).0) sound

-- ReleaseResource and DetachResource: a handle that goes was no changed resource's
gone-sound : (at : Found) (s : Managers) → Stands s.resources.chain at → is_changed at.reference.here ≡ false
    → Sound_in s → Sound (record s.resources {
      chain = with_reference (record at.reference.here { handle = None }) at;
    })
gone-sound at s stands plain sound =
    sound-reference s.resources at (record at.reference.here { handle = None }) stands
    (plain-keeps (record at.reference.here { handle = None }) plain) sound

pub released_sound : (at : Found) (handle : Option ℕ) (s : Managers) → Stands s.resources.chain at
    → is_changed at.reference.here ≡ false → Sound s.resources → Sound (released_at at handle s).resources
released_sound at None s stands plain sound = sound
released_sound at (Some k) s stands plain sound = gone-sound at s stands plain sound

pub detached_sound : (at : Found) (handle : Option ℕ) (s : Managers) → Stands s.resources.chain at
    → is_changed at.reference.here ≡ false → Sound s.resources → Sound (detached_at at handle s).resources
detached_sound at None s stands plain sound = sound
detached_sound at (Some k) s stands plain sound = gone-sound at s stands plain sound

pub release_found_sound : (handle : Option ℕ) (s : Managers) (at : Found) → resource_of handle s.resources ≡ Some at
    → Sound s.resources → Sound (release_found handle s at).after.resources
release_found_sound handle s at e sound =
    either-keeps Sound_in (bars handle s.memory) (refused LOCKED s) _ (λ busy. sound)
    (λ free. either-keeps Sound_in (is_changed at.reference.here) (done tt s) (done tt (released_at at handle s))
    (λ changed. sound) (λ plain. released_sound at handle s (resource-holds handle s at e).0 plain sound))

pub release_resource_sound : (handle : Option ℕ) (s : Managers) → Sound s.resources
    → Sound (rows.release_resource handle s).after.resources
release_resource_sound handle s sound =
    found-keeps Sound_in (resource_of handle s.resources) s (release_found handle s) sound
    (λ at e. release_found_sound handle s at e sound)

pub detach_found_sound : (handle : Option ℕ) (s : Managers) (at : Found) → resource_of handle s.resources ≡ Some at
    → Sound s.resources → Sound (detach_found handle s at).after.resources
detach_found_sound handle s at e sound =
    either-keeps Sound_in (is_changed at.reference.here) (refused RES_ATTR s) (done tt (detached_at at handle s))
    (λ changed. sound) (λ plain. detached_sound at handle s (resource-holds handle s at e).0 plain sound)

pub detach_resource_sound : (handle : Option ℕ) (s : Managers) → Sound s.resources
    → Sound (rows.detach_resource handle s).after.resources
detach_resource_sound handle s sound =
    found-keeps Sound_in (resource_of handle s.resources) s (detach_found handle s) sound
    (λ at e. detach_found_sound handle s at e sound)

-- a file is opened
map-sound : (i : ℕ) (r : Result Map OsErr) (s : Managers) → i < length s.resources.files
    → ((read : Map) → r ≡ Ok read → Fresh read) → Sound_in s → Sound_in (open_map i r s).after
map-sound i (Err code) s inside fresh sound = sound
map-sound i (Ok read) s inside fresh sound =
    let f : OpenFile = opened s.resources.next (Some i) read in
    sound-opened i read (loaded f s) s inside (fresh read refl)
    (loaded-keeps s.resources.loading read.references s.memory (fresh read refl).references) sound

unless-sound : (at : Split File) (o : Option (Split OpenFile)) (s : Managers)
    → place at < length s.resources.files → Sound_in s → Sound_in (open_unless at o s).after
unless-sound at (Some f) s inside sound = sound
unless-sound at None s inside sound =
    either-keeps Sound_in (nat_lt greatest_number s.resources.next) (refused PROFILE s) _ (λ last. sound)
    (λ more. map-sound (place at) (map_in at.here.fork) s inside (map-fresh at.here.fork) sound)

pub open_res_file_sound : (name : List ℕ) (s : Managers) → Sound s.resources
    → Sound (rows.open_res_file name s).after.resources
open_res_file_sound name s sound = by_name (file_named name s.resources) (split-inside _ s.resources.files)
  where
    by_name : (o : Option (Split File))
        → ((at : Split File) → o ≡ Some at → place at < length s.resources.files)
        → Sound_in (open_named o s).after
    by_name None inside = sound
    by_name (Some at) inside = unless-sound at (open_at (place at) s.resources) s (inside at refl) sound

-- a file is made
pub create_res_file_sound : (name : List ℕ) (s : Managers) → Sound s.resources
    → Sound (changing.create_res_file name s).after.resources
create_res_file_sound name s sound = by_name (file_named name s.resources)
  where
    files : List File
    files = s.resources.files

    by_name : (o : Option (Split File)) → Sound_in (create_named name o s).after
    by_name None =
        let more = length-append files (changing.new_file name ∷ []) in
        either-keeps {T = Unit {0}} Sound_in (nat_le most_files (length files)) (refused DISK_FULL s) _ (λ full. sound)
        (λ room. sound-files s.resources (files ++ changing.new_file name ∷ []) (omega (arith, more)) sound)
    by_name (Some at) =
        let same = written-many (place at) changing.new_fork files in
        either-keeps {T = Unit {0}} Sound_in (length at.here.fork == 0) _ (refused DUPLICATE_FILE s)
        (λ empty. sound-files s.resources (written (place at) changing.new_fork files)
        (omega (arith, same)) sound) (λ some. sound)

-- a file is updated; it is closed
whole-of : (n : ℕ) (s : Managers) (at : Split OpenFile) → file_of n s.resources ≡ Some at
    → replaced at.here at ≡ s.resources.chain
whole-of n s at e = split-whole (λ f. f.number == n) s.resources.chain at e

pub update_res_file_sound : (n : ℕ) (s : Managers) → Sound s.resources
    → Sound (rows.update_res_file n s).after.resources
update_res_file_sound n s sound =
    open-keeps Sound_in (file_of n s.resources) s _ sound
    (λ at e. either-keeps {T = Unit {0}} Sound_in (n == 0) (done tt s) _ (λ system. sound)
    (λ own. updated-keeps Sound_in at s (λ r. done tt (with_resources r s)) sound
    (λ r is. update-comes Sound s.memory.heap at s.resources r sound
    (sound-rewritten s.memory.heap s.resources at (whole-of n s at e) sound) is)))

pub close_res_file_sound : (n : ℕ) (s : Managers) → Sound s.resources
    → Sound (rows.close_res_file n s).after.resources
close_res_file_sound n s sound =
    open-keeps Sound_in (file_of n s.resources) s _ sound
    (λ at e. either-keeps {T = Unit {0}} Sound_in (n == 0) (refused PROFILE s) _ (λ system. sound)
    (λ own. updated-keeps Sound_in at s (λ r. done tt (closed_file at r s)) sound
    (λ r is. let left = sound-closed s.resources at (whole-of n s at e) (own-file n s at e own) sound in
    update-comes (λ q. Sound (rows.closed at q)) s.memory.heap at s.resources r left
    (sound-closed-written s.memory.heap s.resources at left) is)))

-- another file is current
pub use_res_file_sound : (n : ℕ) (s : Managers) → Sound s.resources → Sound (rows.use_res_file n s).after.resources
use_res_file_sound n s sound =
    open-keeps Sound_in (file_of n s.resources) s _ sound
    (λ at e. record {
      falls = sound.falls;
      next = sound.next;
      current = ap is_some e;
      placed = sound.placed;
      kept = sound.kept;
      untouched = sound.untouched;
    })

-- the attributes of a file are set
pub set_file_sound : (n attrs : ℕ) (at : Split OpenFile) (s : Managers) → file_of n s.resources ≡ Some at
    → (n == 0) ≡ false → Sound s.resources
    → Sound (record s.resources { chain = replaced (with_map_attrs attrs at.here) at })
set_file_sound n attrs at s e own sound =
    sound-attrs s.resources at attrs (whole-of n s at e) (own-file n s at e own) sound

pub set_res_file_attrs_sound : (n attrs : ℕ) (s : Managers) → Sound s.resources
    → Sound (changing.set_res_file_attrs n attrs s).after.resources
set_res_file_attrs_sound n attrs s sound = by_file (file_of n s.resources) refl
  where
    by_file : (o : Option (Split OpenFile)) → file_of n s.resources ≡ o → Sound_in (set_file n attrs o s).after
    by_file None e = sound
    by_file (Some at) e = either-keeps {T = Unit {0}} Sound_in (n == 0) (refused WRITE_PERMISSION s) _ (λ system. sound)
        (λ own. set_file_sound n attrs at s e own sound)

-- a resource is added
pub add_found_sound : (role : Role) (new : Reference) (h : ℕ) (s : Managers) → keeps_handle new ≡ true
    → Sound s.resources → Sound (add_found role new h s).after.resources
add_found_sound role new h s keeps sound =
    either-keeps {T = Unit {0}} Sound_in (is_owner role || not (has_block h s.memory.heap)) (refused ADD_RES_FAILED s) _
    (λ barred. sound)
    (λ free. either-keeps {T = Unit {0}} Sound_in (s.resources.current == 0) (refused WRITE_PERMISSION s) _
    (λ system. sound)
    (λ own. open-keeps Sound_in (file_of s.resources.current s.resources) s _ sound
    (λ at e. sound-touched s.resources at (added new at.here.map.references) (whole-of s.resources.current s at e)
    (own-file s.resources.current s at e own) sound (added-keep new at.here.map.references keeps))))

pub add_resource_sound : (handle : Option ℕ) (kind : ℕ) (id : ℤ) (text : List ℕ) (s : Managers) → Sound s.resources
    → Sound (changing.add_resource handle kind id text s).after.resources
add_resource_sound handle kind id text s sound =
    known-keeps Sound_in (handle_at handle s.memory.heap) s _ sound
    (λ k is. let new : Reference = new_reference kind id text k.number in
    add_found_sound k.role new k.number s (held-keeps new k.number refl) sound)

-- it is removed
pub remove_found_sound : (handle : Option ℕ) (h : ℕ) (s : Managers) (at : Found)
    → resource_of handle s.resources ≡ Some at → Sound s.resources → Sound (remove_found h s at).after.resources
remove_found_sound handle h s at e sound =
    let stands = (resource-holds handle s at e).0 in
    either-keeps {T = Unit {0}} Sound_in (is_system at.file.here) (refused WRITE_PERMISSION s) _ (λ system. sound)
    (λ own. either-keeps {T = Unit {0}} Sound_in
    (not (at.file.here.number == s.resources.current) || is_protected at.reference.here) (refused REMOVE_RES_FAILED s)
    _ (λ barred. sound)
    (λ free. sound-touched s.resources at.file (removed at.reference) stands.file own sound
    (all-removed keeps_handle at.file.here.map.references at.reference stands.reference)))

pub remove_resource_sound : (handle : Option ℕ) (s : Managers) → Sound s.resources
    → Sound (changing.remove_resource handle s).after.resources
remove_resource_sound handle s sound =
    known-keeps Sound_in (handle_at handle s.memory.heap) s _ sound
    (λ k is. removable-keeps Sound_in (resource_of handle s.resources) s (remove_found k.number s) sound
    (λ at e. remove_found_sound handle k.number s at e sound))

-- the reference of a resource's handle keeps it
bound-keeps : (handle : Option ℕ) (s : Managers) (at : Found) (x : Reference)
    → resource_of handle s.resources ≡ Some at → x.handle ≡ at.reference.here.handle → keeps_handle x ≡ true
bound-keeps None s at x e same = cc
bound-keeps (Some k) s at x e same = held-keeps x k (same ∙ ((resource-holds (Some k) s at e).1 k refl).1)

-- a resource is changed
pub change_found_sound : (handle : Option ℕ) (s : Managers) (at : Found) → resource_of handle s.resources ≡ Some at
    → Sound s.resources → Sound (change_found s at).after.resources
change_found_sound handle s at e sound =
    let stands = (resource-holds handle s at e).0 in
    let new : Reference = marked at.reference.here in
    free-keeps Sound_in
    (λ f. done tt (with_resources (touched f.file (replaced (marked f.reference.here) f.reference) s.resources) s)) s at
    sound
    (λ own. sound-touched s.resources at.file (replaced new at.reference) stands.file own sound
    (all-replaced keeps_handle at.file.here.map.references at.reference new stands.reference
    (λ _. bound-keeps handle s at new e refl)))

pub changed_resource_sound : (handle : Option ℕ) (s : Managers) → Sound s.resources
    → Sound (changing.changed_resource handle s).after.resources
changed_resource_sound handle s sound =
    found-keeps Sound_in (resource_of handle s.resources) s (change_found s) sound
    (λ at e. change_found_sound handle s at e sound)

-- its bytes are stored
stored-sound : (bytes : Option (List ℕ)) (at : Found) (s : Managers) → Stands s.resources.chain at
    → Sound s.resources → Sound (stored_if bytes at s).resources
stored-sound None at s stands sound = sound
stored-sound (Some bytes) at s stands sound =
    sound-reference s.resources at (stored_anew (Some bytes) at.reference.here) stands
    (anew-keeps (Some bytes) at.reference.here) sound

pub write_found_sound : (handle : Option ℕ) (s : Managers) (at : Found) → resource_of handle s.resources ≡ Some at
    → Sound s.resources → Sound (write_found handle s at).after.resources
write_found_sound handle s at e sound =
    either-keeps {T = Unit {0}} Sound_in (is_changed at.reference.here && not (is_protected at.reference.here)) _
    (done tt s) (λ changed. stored-sound (bytes_held handle s.memory.heap) at s (resource-holds handle s at e).0 sound)
    (λ plain. sound)

pub write_resource_sound : (handle : Option ℕ) (s : Managers) → Sound s.resources
    → Sound (changing.write_resource handle s).after.resources
write_resource_sound handle s sound =
    found-keeps Sound_in (resource_of handle s.resources) s (write_found handle s) sound
    (λ at e. write_found_sound handle s at e sound)

-- it gets another ID and name; other attributes
pub rename_found_sound : (id : ℤ) (text : List ℕ) (handle : Option ℕ) (s : Managers) (at : Found)
    → resource_of handle s.resources ≡ Some at → Sound s.resources
    → Sound (rename_found id text s at).after.resources
rename_found_sound id text handle s at e sound =
    let new : Reference = renamed id text at.reference.here in
    free-keeps Sound_in (λ f. done tt (with_changed (renamed id text f.reference.here) f s)) s at sound
    (λ own. sound-reference s.resources at new (resource-holds handle s at e).0 (bound-keeps handle s at new e refl)
    sound)

pub set_res_info_sound : (handle : Option ℕ) (id : ℤ) (text : List ℕ) (s : Managers) → Sound s.resources
    → Sound (changing.set_res_info handle id text s).after.resources
set_res_info_sound handle id text s sound =
    found-keeps Sound_in (resource_of handle s.resources) s (rename_found id text s) sound
    (λ at e. rename_found_sound id text handle s at e sound)

pub set_found_sound : (attrs : ℕ) (handle : Option ℕ) (s : Managers) (at : Found)
    → resource_of handle s.resources ≡ Some at → Sound s.resources → Sound (set_found attrs s at).after.resources
set_found_sound attrs handle s at e sound =
    let new : Reference = with_attrs (set attrs at.reference.here.stored.attrs) at.reference.here in
    sound-reference s.resources at new (resource-holds handle s at e).0 (bound-keeps handle s at new e refl) sound

pub set_res_attrs_sound : (handle : Option ℕ) (attrs : ℕ) (s : Managers) → Sound s.resources
    → Sound (changing.set_res_attrs handle attrs s).after.resources
set_res_attrs_sound handle attrs s sound =
    found-keeps Sound_in (resource_of handle s.resources) s (set_found attrs s) sound
    (λ at e. set_found_sound attrs handle s at e sound)

-- its stored data is changed in part
restored_sound : (change : List ℕ → List ℕ) (handle : Option ℕ) (s : Managers) (at : Found)
    → resource_of handle s.resources ≡ Some at → is_system at.file.here ≡ false → Sound s.resources
    → Sound (restored change at s.resources)
restored_sound change handle s at e own sound =
    let stands = (resource-holds handle s at e).0 in
    let new : Reference = with_datum (change at.reference.here.stored.datum) at.reference.here in
    sound-touched s.resources at.file (replaced new at.reference) stands.file own sound
    (all-replaced keeps_handle at.file.here.map.references at.reference new stands.reference
    (λ _. bound-keeps handle s at new e refl))

unless_sound : (o : Option OsErr) (change : List ℕ → List ℕ) (handle : Option ℕ) (s : Managers) (at : Found)
    → resource_of handle s.resources ≡ Some at → (o ≡ None → is_system at.file.here ≡ false) → Sound s.resources
    → Sound (restored_unless o handle change at s).after.resources
unless_sound (Some code) change handle s at e own sound = sound
unless_sound None change handle s at e own sound =
    let after : Managers = with_resources (restored change at s.resources) s in
    either-keeps {T = Unit {0}} Sound_in (is_in_memory handle s.memory.heap) (refused IN_MEMORY after) (done tt after)
    (λ held. restored_sound change handle s at e (own refl) sound)
    (λ empty. restored_sound change handle s at e (own refl) sound)

pub write_part_found_sound : (from : ℕ) (x : List ℕ) (handle : Option ℕ) (s : Managers) (at : Found)
    → resource_of handle s.resources ≡ Some at → Sound s.resources
    → Sound (write_part_found handle from x s at).after.resources
write_part_found_sound from x handle s at e sound = unless_sound (write_refusal from (length x) at) (written_over from x)
    handle s at e (own-first (is_system at.file.here) WRITE_PERMISSION _) sound

pub write_partial_resource_sound : (handle : Option ℕ) (from : ℕ) (x : List ℕ) (s : Managers) → Sound s.resources
    → Sound (partial.write_partial_resource handle from x s).after.resources
write_partial_resource_sound handle from x s sound =
    found-keeps Sound_in (resource_of handle s.resources) s (write_part_found handle from x s) sound
    (λ at e. write_part_found_sound from x handle s at e sound)

pub set_size_found_sound : (n : ℕ) (handle : Option ℕ) (s : Managers) (at : Found)
    → resource_of handle s.resources ≡ Some at → Sound s.resources
    → Sound (set_size_found handle n s at).after.resources
set_size_found_sound n handle s at e sound = unless_sound (size_refusal n at) (resized_datum n)
    handle s at e (own-first (is_system at.file.here) WRITE_PERMISSION _) sound

pub set_resource_size_sound : (handle : Option ℕ) (n : ℕ) (s : Managers) → Sound s.resources
    → Sound (partial.set_resource_size handle n s).after.resources
set_resource_size_sound handle n s sound =
    found-keeps Sound_in (resource_of handle s.resources) s (set_size_found handle n s) sound
    (λ at e. set_size_found_sound n handle s at e sound)

pub read_partial_resource_sound : (handle : Option ℕ) (from n : ℕ) (s : Managers) → Sound s.resources
    → Sound (partial.read_partial_resource handle from n s).after.resources
read_partial_resource_sound handle from n s sound =
    found-keeps Sound_in (resource_of handle s.resources) s (read_part_found handle from n s) sound
    (λ at e. either-keeps Sound_in (nat_lt (length at.reference.here.stored.datum) (from + n)) (refused OFFSET s) _
    (λ past. sound) (λ inside. either-keeps Sound_in (is_in_memory handle s.memory.heap) (refused IN_MEMORY s)
    (done (piece from n at.reference.here.stored.datum) s) (λ held. sound) (λ empty. sound)))

-- whether loading is on, and the code that ResError tells, are no matter
pub loading_sound : (on : Bool) (r : Resources) → Sound r → Sound (record r { loading = on })
loading_sound on r sound = record {
  falls = sound.falls;
  next = sound.next;
  current = sound.current;
  placed = sound.placed;
  kept = sound.kept;
  untouched = sound.untouched;
}

pub purging_sound : (on : Bool) (r : Resources) → Sound r → Sound (record r { purging = on })
purging_sound on r sound = record {
  falls = sound.falls;
  next = sound.next;
  current = sound.current;
  placed = sound.placed;
  kept = sound.kept;
  untouched = sound.untouched;
}

pub error_sound : (code : OsErr) (r : Resources) → Sound r → Sound (record r { error = code })
error_sound code r sound = record {
  falls = sound.falls;
  next = sound.next;
  current = sound.current;
  placed = sound.placed;
  kept = sound.kept;
  untouched = sound.untouched;
}
