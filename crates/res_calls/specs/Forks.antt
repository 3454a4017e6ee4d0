use Rattle.std.specs.Prelude.{◌≡◌, ◌≢◌, ◌⊎◌, ℕ, true, Option, Some, None, List, [], ◌∷◌, ◌++◌, slice_get}
use Rattle.std.specs.Prelude.{unwrap_or}
use Rattle.heap_calls.specs.State.{State}
use Rattle.heap_calls.specs.Contents.{bytes_of}
use Rattle.fork_format.specs.Canonical.{fits}
use Rattle.res_map.specs.Split.{Split, replaced}
use Rattle.res_map.specs.Map.{Reference, content}
use Rattle.res_calls.specs.Files.{File, OpenFile, file_of, file_named}
use Rattle.res_calls.specs.Fetch.{Managers}
use Rattle.res_calls.specs.Asked.{ResourceAsked, CreateResFile, CloseResFile, UpdateResFile}
use Rattle.res_calls.specs.Update.{updated_map, written_at, fork_of}
use Rattle.res_calls.specs.Changing.{new_fork, new_file}

-- The changes that a call may make to the files. More Macintosh Toolbox, chapter 1, "Writing Resources" and "Creating
-- and Opening Resource Files".

-- The files after an update of the open file whose number is `n`, which is not the System file: the file was touched,
-- its content fits the format, and the fork of that content stands in the file's place.
abbrev pub Rewrites : ℕ → Managers → List File → Type 0
Rewrites n s files = (at : Split OpenFile) × (file_of n s.resources ≡ Some at) × (n ≢ 0) × (at.here.touched ≡ true)
    × (fits (content (updated_map s.memory.heap at.here.map)) ≡ true)
    × (files ≡ written_at at.here.file (fork_of s.memory.heap at.here) s.resources.files)

-- The files with a new fork in the place of a fork that has no bytes, and the files with a new file after the others.
abbrev pub Renews : List ℕ → Managers → List File → Type 0
Renews name s files = (at : Split File) × (file_named name s.resources ≡ Some at) × (at.here.fork ≡ [])
    × (files ≡ replaced (record at.here { fork = new_fork; written = true }) at)

abbrev pub Creates : List ℕ → Managers → List File → Type 0
Creates name s files =
    (file_named name s.resources ≡ None) × (files ≡ s.resources.files ++ new_file name ∷ [])

-- The files after a call: as they were, or as the three calls that write forks leave them.
abbrev pub Written : ResourceAsked → Managers → List File → Type 0
Written (UpdateResFile n) s files = (files ≡ s.resources.files) ⊎ Rewrites n s files
Written (CloseResFile n) s files = (files ≡ s.resources.files) ⊎ Rewrites n s files
Written (CreateResFile name) s files =
    (files ≡ s.resources.files) ⊎ (Renews name s files ⊎ Creates name s files)
Written asked s files = files ≡ s.resources.files

-- The file at a place has the given fork, and the fork was written. Nothing satisfies this where the place is None.
abbrev pub HasFork : List ℕ → Option ℕ → List File → Type 0
HasFork fork None files = ⊥
HasFork fork (Some i) files = (f : File) × (slice_get files i ≡ Some f) × (f.fork ≡ fork) × (f.written ≡ true)

-- A reference has a handle, and its stored data afterwards is the bytes of the handle's block, or the stored data from
-- before where the handle is empty.
abbrev pub StoresHandle : State → Reference → Reference → Type 0
StoresHandle heap x after =
    (h : ℕ) × (x.handle ≡ Some h) × (after.stored.datum ≡ unwrap_or (bytes_of h heap) x.stored.datum)
