use Rattle.std.specs.Prelude.{ℕ, ℤ, Bool, true, false, not, ◌&&◌, ◌||◌, ◌==◌, nat_le, Option, Some, None, Result, Ok, Err, List, []}
use Rattle.std.specs.Prelude.{◌∷◌, ◌++◌, length, replicate, if◌then◌else◌}
use Rattle.mac_words.specs.Attributes.{changed, has_bit, set}
use Rattle.mac_words.specs.declared.code.OsErr.{OsErr}
use Rattle.mac_words.specs.declared.code.TheConstants.OsErr.{RES_NOT_FOUND, ADD_RES_FAILED, REMOVE_RES_FAILED, RES_ATTR}
use Rattle.mac_words.specs.declared.code.TheConstants.OsErr.{WRITE_PERMISSION, DUPLICATE_FILE, DISK_FULL}
use Rattle.fork_format.specs.Content.{Content}
use Rattle.fork_format.specs.Canonical.{canon}
use Rattle.fork_format.specs.Fork.{map_kept}
use Rattle.heap_calls.specs.State.{Role}
use Rattle.heap_calls.specs.Answer.{Known, handle_at}
use Rattle.heap_calls.specs.Purging.{is_resource}
use Rattle.heap_calls.specs.Inside.{inside, cast, owned_as, has_block}
use Rattle.res_map.specs.Split.{Split, replaced, removed, place}
use Rattle.res_map.specs.Map.{Reference, new_reference, added, is_changed, is_protected, with_attrs, renamed, stored_anew}
use Rattle.res_calls.specs.Files.{File, OpenFile, Resources, Found, with_reference, file_named, file_of}
use Rattle.res_calls.specs.Fetch.{Managers, Answer, done, refused, is_system}
use Rattle.res_calls.specs.Update.{bytes_held, written}
use Rattle.res_calls.specs.Rows.{on_resource, on_file, resource_of, with_resources}

-- The calls of the Resource Manager that change resources. More Macintosh Toolbox, chapter 1, "Creating and Opening
-- Resource Files", "Manipulating Resources" and "Writing Resources".

-- The greatest number of files that an application may have.
abbrev pub most_files : ℕ
most_files = 256

-- The content of a new fork, which has no resources, and the bytes of the new fork.
abbrev pub no_content : Content
no_content = record { area = replicate 240 0; attrs = 0; groups = [] }

abbrev pub new_fork : List ℕ
new_fork = canon no_content

-- A file that CreateResFile makes.
abbrev pub new_file : List ℕ → File
new_file name = record { name = name; fork = new_fork; written = true }

-- The managers with the given files.
abbrev pub with_files : List File → Managers → Managers
with_files files s = with_resources (record s.resources { files = files }) s

-- CreateResFile: makes a file after the others, where no file has the name; -34 (dskFulErr) where there are 256 files.
-- A file of the name whose fork has no bytes gets a new fork in place; -48 (dupFNErr) where the fork has a byte or
-- more.
-- See decision 60 (`CreateResFile` fills a fork of 0 bytes in place).
abbrev pub create_named : List ℕ → Option (Split File) → Managers → Answer (Unit {0})
create_named name None s =
    if nat_le most_files (length s.resources.files) then refused DISK_FULL s
    else done tt (with_files (s.resources.files ++ new_file name ∷ []) s)
create_named name (Some at) s =
    if length at.here.fork == 0 then done tt (with_files (written (place at) new_fork s.resources.files) s)
    else refused DUPLICATE_FILE s

abbrev pub create_res_file : List ℕ → Managers → Answer (Unit {0})
create_res_file name s = create_named name (file_named name s.resources) s

-- The open files, and the resources, where the given open file is touched and has the given references.
-- See decision 53 (six calls touch a file).
abbrev pub touched_files : Split OpenFile → List Reference → List OpenFile
touched_files at references =
    replaced (record at.here { map = record at.here.map { references = references }; touched = true }) at

abbrev pub touched : Split OpenFile → List Reference → Resources → Resources
touched at references r = record r { chain = touched_files at references }

-- SetResFileAttrs: sets the attributes of the resource map of an open file; -61 (wrPermErr) for the System file. A number
-- under which no file is open is no error, and nothing is done. Of the bits, mapReadOnly (128) and those without a name
-- are recorded in the map; mapChanged (32) sets whether the file is touched; mapCompact (64) is not recorded.
-- See decisions 239 (mapChanged says that a file is touched) and 240 (`SetResFileAttrs` of a number that no file has).
abbrev pub with_map_attrs : ℕ → OpenFile → OpenFile
with_map_attrs attrs f = record f { map = record f.map { attrs = map_kept attrs }; touched = has_bit 32 attrs }

abbrev pub set_file : ℕ → ℕ → Option (Split OpenFile) → Managers → Answer (Unit {0})
set_file n attrs None s = done tt s
set_file n attrs (Some at) s = if n == 0 then refused WRITE_PERMISSION s
    else done tt (with_resources (record s.resources { chain = replaced (with_map_attrs attrs at.here) at }) s)

abbrev pub set_res_file_attrs : ℕ → ℕ → Managers → Answer (Unit {0})
set_res_file_attrs n attrs s = set_file n attrs (file_of n s.resources) s

-- The answer of a call whose argument must be a handle, of any role, empty or not; -192 (resNotFound) where the
-- argument is not a handle.
abbrev pub on_known : {T : Type 0} → Result Known OsErr → Managers → (Known → Answer T) → Answer T
on_known (Err code) s answer = refused RES_NOT_FOUND s
on_known (Ok k) s answer = answer k

abbrev pub on_handle : {T : Type 0} → Option ℕ → Managers → (Known → Answer T) → Answer T
on_handle handle s answer = on_known (handle_at handle s.memory.heap) s answer

-- The managers after the reference `new` is added to an open file, and the handle `h` has become a resource's.
abbrev pub added_to : Split OpenFile → Reference → ℕ → Managers → Managers
added_to at new h s = record {
  memory = inside (cast (owned_as true) h) s.memory;
  resources = touched at (added new at.here.map.references) s.resources;
}

-- AddResource: adds a reference to the current file. -192 (resNotFound) where the argument is not a handle; -194
-- (addResFailed) where the handle is a resource's already or is empty; -61 (wrPermErr) where the current file is the
-- System file.
-- See decision 61 (`AddResource` refuses in a fixed order).
abbrev pub add_found : Role → Reference → ℕ → Managers → Answer (Unit {0})
add_found role new h s = if is_resource role || not (has_block h s.memory.heap) then refused ADD_RES_FAILED s
    else if s.resources.current == 0 then refused WRITE_PERMISSION s
    else on_file s.resources.current s (λ at. done tt (added_to at new h s))

abbrev pub add_resource : Option ℕ → ℕ → ℤ → List ℕ → Managers → Answer (Unit {0})
add_resource handle kind id text s =
    on_handle handle s (λ k. add_found k.role (new_reference kind id text k.number) k.number s)

-- The answer of a call on the resource of a handle; -196 (rmvResFailed) where the handle is not a resource's.
abbrev pub on_removable : {T : Type 0} → Option Found → Managers → (Found → Answer T) → Answer T
on_removable None s answer = refused REMOVE_RES_FAILED s
on_removable (Some at) s answer = answer at

-- The managers after a reference is removed, and the handle `h` has become the application's own.
abbrev pub removed_from : Found → ℕ → Managers → Managers
removed_from at h s = record {
  memory = inside (cast (owned_as false) h) s.memory;
  resources = touched at.file (removed at.reference) s.resources;
}

-- RemoveResource: removes a reference from the current file. -61 (wrPermErr) where the resource is the System file's;
-- -196 (rmvResFailed) where its file is not current, or the resource is protected.
-- See decision 62 (`RemoveResource` of a handle that is no resource's is -196).
abbrev pub remove_found : ℕ → Managers → Found → Answer (Unit {0})
remove_found h s at = if is_system at.file.here then refused WRITE_PERMISSION s
    else if not (at.file.here.number == s.resources.current) || is_protected at.reference.here
    then refused REMOVE_RES_FAILED s
    else done tt (removed_from at h s)

abbrev pub remove_resource : Option ℕ → Managers → Answer (Unit {0})
remove_resource handle s =
    on_handle handle s (λ k. on_removable (resource_of handle s.resources) s (remove_found k.number s))

-- The answer of a call that changes a found reference. -61 (wrPermErr) where the resource is the System file's; -198
-- (resAttrErr) where the resource is protected.
abbrev pub if_changeable : {T : Type 0} → (Found → Answer T) → Managers → Found → Answer T
if_changeable answer s at = if is_system at.file.here then refused WRITE_PERMISSION s
    else if is_protected at.reference.here then refused RES_ATTR s else answer at

-- ChangedResource: sets resChanged of the reference, and touches its file.
abbrev pub marked : Reference → Reference
marked x = with_attrs (changed x.stored.attrs) x

abbrev pub change_found : Managers → Found → Answer (Unit {0})
change_found s at = if_changeable (λ at.
    done tt (with_resources (touched at.file (replaced (marked at.reference.here) at.reference) s.resources) s)) s at

abbrev pub changed_resource : Option ℕ → Managers → Answer (Unit {0})
changed_resource handle s = on_resource handle s (change_found s)

-- The managers where the found reference is replaced by `x`.
abbrev pub with_changed : Reference → Found → Managers → Managers
with_changed x at s = with_resources (record s.resources { chain = with_reference x at }) s

-- The managers where the given bytes are the stored data of the found reference; without bytes the managers stay as
-- they were.
abbrev pub stored_if : Option (List ℕ) → Found → Managers → Managers
stored_if None at s = s
stored_if (Some bytes) at s = with_changed (stored_anew (Some bytes) at.reference.here) at s

-- A resource of which WriteResource stores the bytes of its handle: it was changed, and is not protected.
abbrev pub is_to_write : Reference → Bool
is_to_write x = is_changed x && not (is_protected x)

-- WriteResource: stores the bytes of a changed resource's handle, unless the resource is protected or the handle is
-- empty. The next update of the file writes them into the fork.
abbrev pub write_found : Option ℕ → Managers → Found → Answer (Unit {0})
write_found handle s at = if is_to_write at.reference.here
    then done tt (stored_if (bytes_held handle s.memory.heap) at s) else done tt s

abbrev pub write_resource : Option ℕ → Managers → Answer (Unit {0})
write_resource handle s = on_resource handle s (write_found handle s)

-- SetResInfo: sets the ID and the name of a resource; an empty name leaves the resource's name as it was.
abbrev pub rename_found : ℤ → List ℕ → Managers → Found → Answer (Unit {0})
rename_found id text s at = if_changeable (λ at. done tt (with_changed (renamed id text at.reference.here) at s)) s at

abbrev pub set_res_info : Option ℕ → ℤ → List ℕ → Managers → Answer (Unit {0})
set_res_info handle id text s = on_resource handle s (rename_found id text s)

-- SetResAttrs: sets the attributes of a resource, of the System file too; resChanged stays as it was.
abbrev pub set_found : ℕ → Managers → Found → Answer (Unit {0})
set_found attrs s at =
    done tt (with_changed (with_attrs (set attrs at.reference.here.stored.attrs) at.reference.here) at s)

abbrev pub set_res_attrs : Option ℕ → ℕ → Managers → Answer (Unit {0})
set_res_attrs handle attrs s = on_resource handle s (set_found attrs s)
