use Rattle.std.specs.Prelude.{ℕ, ◌+◌, Bool, Option, Some, None, is_some, List, length, nat_lt, if◌then◌else◌}
use Rattle.mac_words.specs.declared.code.OsErr.{OsErr}
use Rattle.mac_words.specs.declared.code.TheConstants.OsErr.{IN_MEMORY, OFFSET, RES_ATTR, TOO_LONG, WRITE_PERMISSION}
use Rattle.res_map.specs.Map.{resized_datum}
use Rattle.memory_windows.specs.Writes.{piece, written}
use Rattle.heap_calls.specs.State.{State}
use Rattle.res_map.specs.Split.{replaced}
use Rattle.res_map.specs.Map.{is_protected, with_datum}
use Rattle.res_calls.specs.Changing.{touched_files}
use Rattle.res_calls.specs.Fetch.{Managers, Answer, done, is_system, refused}
use Rattle.res_calls.specs.Files.{OpenFile, Resources, Found}
use Rattle.res_calls.specs.Rows.{on_resource, with_resources}
use Rattle.res_calls.specs.Update.{bytes_held}

-- The calls that read and write a part of a resource's stored data. More Macintosh Toolbox, chapter 1, "Reading and
-- Writing Partial Resources".

-- The greatest number of bytes that these calls give a resource.
-- See decision 192 (a resource that is written in parts has at most 16777215 bytes).
abbrev pub most_bytes : ℕ
most_bytes = 16777215

-- Holds where the handle has a block.
abbrev pub is_in_memory : Option ℕ → State → Bool
is_in_memory handle heap = is_some (bytes_held handle heap)

-- ReadPartialResource: returns `n` bytes of the stored data from an offset on. -190 (inputOutOfBounds) where the stored
-- data does not have them all; -188 (resourceInMemory) where the resource's handle has a block.
abbrev pub read_part_found : Option ℕ → ℕ → ℕ → Managers → Found → Answer (List ℕ)
read_part_found handle from n s at =
    if nat_lt (length at.reference.here.stored.datum) (from + n) then refused OFFSET s
    else if is_in_memory handle s.memory.heap then refused IN_MEMORY s
    else done (piece from n at.reference.here.stored.datum) s

abbrev pub read_partial_resource : Option ℕ → ℕ → ℕ → Managers → Answer (List ℕ)
read_partial_resource handle from n s = on_resource handle s (read_part_found handle from n s)

-- The open files, and the resources, where the stored data of the found reference is changed, and its file is touched. resChanged stays as
-- it was, and so does the block of the handle.
-- See decision 191 (a call that writes a part touches the file, and does not mark the resource).
abbrev pub restored_files : (List ℕ → List ℕ) → Found → List OpenFile
restored_files change at = touched_files at.file
    (replaced (with_datum (change at.reference.here.stored.datum) at.reference.here) at.reference)

abbrev pub restored : (List ℕ → List ℕ) → Found → Resources → Resources
restored change at r = record r { chain = restored_files change at }

-- The answer of a call that has changed stored data: -188 (resourceInMemory) where the resource's handle has a block.
-- The stored data is changed all the same.
abbrev pub unless_in_memory : Option ℕ → Managers → Answer (Unit {0})
unless_in_memory handle s = if is_in_memory handle s.memory.heap then refused IN_MEMORY s else done tt s

-- The answer of a call that changes the stored data of a found reference, unless it is refused with a code.
abbrev pub restored_unless : Option OsErr → Option ℕ → (List ℕ → List ℕ) → Found → Managers → Answer (Unit {0})
restored_unless (Some code) handle change at s = refused code s
restored_unless None handle change at s = unless_in_memory handle (with_resources (restored change at s.resources) s)

-- The code with which WritePartialResource is refused, for `n` bytes from an offset on: -61 (wrPermErr) where the
-- resource is the System file's; -198 (resAttrErr) where it is protected; -190 (inputOutOfBounds) where the offset is
-- past the end of its stored data; -189 (writingPastEnd) where the bytes would end past what a resource can have.
abbrev pub write_refusal : ℕ → ℕ → Found → Option OsErr
write_refusal from n at =
    if is_system at.file.here then Some WRITE_PERMISSION
    else if is_protected at.reference.here then Some RES_ATTR
    else if nat_lt (length at.reference.here.stored.datum) from then Some OFFSET
    else if nat_lt most_bytes (from + n) then Some TOO_LONG
    else None

-- WritePartialResource: writes bytes over the stored data from an offset on; the stored data grows where needed.
abbrev pub write_part_found : Option ℕ → ℕ → List ℕ → Managers → Found → Answer (Unit {0})
write_part_found handle from x s at =
    restored_unless (write_refusal from (length x) at) handle (written from x) at s

abbrev pub write_partial_resource : Option ℕ → ℕ → List ℕ → Managers → Answer (Unit {0})
write_partial_resource handle from x s = on_resource handle s (write_part_found handle from x s)

-- The code with which SetResourceSize is refused: -61 (wrPermErr) and -198 (resAttrErr) as for WritePartialResource;
-- -189 (writingPastEnd) for a size that no resource can have.
abbrev pub size_refusal : ℕ → Found → Option OsErr
size_refusal n at =
    if is_system at.file.here then Some WRITE_PERMISSION
    else if is_protected at.reference.here then Some RES_ATTR
    else if nat_lt most_bytes n then Some TOO_LONG
    else None

-- SetResourceSize: gives the stored data another size; bytes that are cut off are lost, and new bytes are 0.
abbrev pub set_size_found : Option ℕ → ℕ → Managers → Found → Answer (Unit {0})
set_size_found handle n s at = restored_unless (size_refusal n at) handle (resized_datum n) at s

abbrev pub set_resource_size : Option ℕ → ℕ → Managers → Answer (Unit {0})
set_resource_size handle n s = on_resource handle s (set_size_found handle n s)
