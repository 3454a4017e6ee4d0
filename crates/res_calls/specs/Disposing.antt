use Rattle.std.specs.Prelude.{ℕ, ◌==◌, ◌&&◌, not, Bool, true, false, Option, None, Some}
use Rattle.std.specs.List.{list_any}
use Rattle.res_map.specs.Split.{Split}
use Rattle.res_map.specs.Map.{has_handle, is_changed}
use Rattle.res_calls.specs.Files.{OpenFile, Found, file_of}
use Rattle.res_calls.specs.Fetch.{Managers}
use Rattle.res_calls.specs.Rows.{resource_of}
use Rattle.res_calls.specs.Asked.{ResourceAsked, OpenResFile, CloseResFile, ReleaseResource}

-- The handles that a call of the Resource Manager disposes of where it is answered. More Macintosh Toolbox, chapter 1,
-- "Resource Manager Routines".

-- Holds where the open file is present and one of its resources has the handle `h`.
abbrev pub holds : ℕ → Option (Split OpenFile) → Bool
holds h None = false
holds h (Some at) = list_any (has_handle h) at.here.map.references

-- Holds where the resource is present and was not changed: nothing is done to release a resource that was changed.
abbrev pub is_unchanged : Option Found → Bool
is_unchanged None = false
is_unchanged (Some at) = not (is_changed at.reference.here)

-- Holds of a handle that the call disposes of where it is answered: the call closes the file of the handle's resource,
-- or releases the handle of a resource that was not changed.
-- See decision 93 (the handles that a call disposes of may depend on the open files).
abbrev pub disposes_of : ℕ → ResourceAsked → Managers → Bool
disposes_of h (CloseResFile number) s = holds h (file_of number s.resources)
disposes_of h (ReleaseResource (Some k)) s = k == h && is_unchanged (resource_of (Some k) s.resources)
disposes_of h asked s = false

-- Holds of a call that opens a file.
abbrev pub opens_file : ResourceAsked → Bool
opens_file (OpenResFile name) = true
opens_file asked = false
