use Rattle.std.specs.Prelude.{ℕ, Bool, Option, Some, None, List, if◌then◌else◌}
use Rattle.std.specs.Ordering.{int_eq}
use Rattle.mac_words.specs.declared.code.OsErr.{OsErr}
use Rattle.mac_words.specs.declared.code.TheConstants.OsErr.{IN_MEMORY}
use Rattle.res_map.specs.Map.{resized_datum}
use Rattle.memory_windows.specs.Writes.{written}
use Rattle.res_calls.specs.Asked.{ResourceAsked, WritePartialResource, SetResourceSize}
use Rattle.res_calls.specs.Fetch.{Managers}
use Rattle.res_calls.specs.Files.{Resources, Found}
use Rattle.res_calls.specs.Partial.{restored}
use Rattle.res_calls.specs.Rows.{resource_of}

-- What a refused call leaves of the resources. More Macintosh Toolbox, chapter 1, "Writing Partial Resources".

-- The resources where the stored data of a resource is changed, if the resource was found.
abbrev pub restored_if : (List ℕ → List ℕ) → Option Found → Resources → Resources
restored_if change None r = r
restored_if change (Some at) r = restored change at r

-- Holds of -188 (resourceInMemory).
abbrev pub is_held_code : OsErr → Bool
is_held_code code = int_eq code.0 IN_MEMORY.0

-- The resources that a call leaves which is refused with this code, but for the code that ResError returns: as they
-- were. Where WritePartialResource and SetResourceSize are refused with -188 (resourceInMemory) they have changed the
-- stored data all the same.
-- See decision 191 (a call that writes a part touches the file, and does not mark the resource).
abbrev pub left_refused : ResourceAsked → OsErr → Managers → Resources
left_refused (WritePartialResource handle offset bytes) code s = if is_held_code code
    then restored_if (written offset bytes) (resource_of handle s.resources) s.resources else s.resources
left_refused (SetResourceSize handle size) code s = if is_held_code code
    then restored_if (resized_datum size) (resource_of handle s.resources) s.resources else s.resources
left_refused asked code s = s.resources
