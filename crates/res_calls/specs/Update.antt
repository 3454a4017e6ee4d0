use Rattle.std.specs.Prelude.{ℕ, ◌-◌, ◌==◌, true, false, Option, Some, None, List, [], ◌∷◌, map, if◌then◌else◌}
use Rattle.fork_format.specs.Canonical.{canon, fits}
use Rattle.heap_calls.specs.State.{State}
use Rattle.heap_calls.specs.Contents.{bytes_of}
use Rattle.res_map.specs.Split.{Split, replaced}
use Rattle.res_map.specs.Map.{Reference, Map, is_changed, stored_anew, content}
use Rattle.res_calls.specs.Files.{File, OpenFile, Resources}

-- An update of an open file: its resource fork is written anew. More Macintosh Toolbox, chapter 1, "Writing Resources".

-- The bytes of a handle's block, where the handle is present and not empty.
abbrev pub bytes_held : Option ℕ → State → Option (List ℕ)
bytes_held None heap = None
bytes_held (Some h) heap = bytes_of h heap

-- The new stored data of a reference: the bytes of the handle's block, where the resource was changed. Where the handle
-- is empty, the stored data stays as it is.
-- See decision 55 (an update writes each changed reference).
abbrev pub fresh : State → Reference → Option (List ℕ)
fresh heap r = if is_changed r then bytes_held r.handle heap else None

-- The reference, the resource map and the open file after an update.
abbrev pub updated_reference : State → Reference → Reference
updated_reference heap r = stored_anew (fresh heap r) r

abbrev pub updated_map : State → Map → Map
updated_map heap m = record m { references = map (updated_reference heap) m.references }

abbrev pub updated : State → OpenFile → OpenFile
updated heap f = record f { map = updated_map heap f.map; touched = false }

-- The files where the file at place `i` has the given fork.
abbrev pub written : ℕ → List ℕ → List File → List File
written i fork [] = []
written i fork (f ∷ files) = if i == 0 then record f { fork = fork; written = true } ∷ files
    else f ∷ written (i - 1) fork files

-- The files where the file at a place has the given fork. The System file has no place, and its fork is not written.
abbrev pub written_at : Option ℕ → List ℕ → List File → List File
written_at None fork files = files
written_at (Some i) fork files = written i fork files

-- The fork that an update writes.
abbrev pub fork_of : State → OpenFile → List ℕ
fork_of heap f = canon (content (updated_map heap f.map))

-- The resources after an update that writes a fork.
abbrev pub rewritten : State → Split OpenFile → Resources → Resources
rewritten heap at r = record r {
  files = written_at at.here.file (fork_of heap at.here) r.files;
  chain = replaced (updated heap at.here) at;
}

-- The resources after an update. A file that is not touched stays as it is; the result is None where the content of the
-- file does not fit the format.
-- See decision 54 (an update of an untouched file writes nothing).
abbrev pub update : State → Split OpenFile → Resources → Option Resources
update heap at r =
    if at.here.touched
    then if fits (content (updated_map heap at.here.map)) then Some (rewritten heap at r) else None
    else Some r
