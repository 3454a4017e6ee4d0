use Rattle.std.specs.Prelude.{ℕ, Bool, Option, None, Some, List, [], ◌∷◌, if◌then◌else◌}
use Rattle.heap_calls.specs.Gone.{Gone}
use Rattle.res_map.specs.Map.{has_handle, stored_anew}
use Rattle.res_calls.specs.Changing.{is_to_write}
use Rattle.res_calls.specs.Files.{Resources, Found, find_open, with_reference}
use Rattle.res_calls.specs.declared.purging.Purged.{Purged}

-- What is stored of the blocks that are purged while SetResPurge is on. More Macintosh Toolbox, chapter 1,
-- "SetResPurge".

-- The resources where the bytes of a purged block are stored of the found reference, as WriteResource stores those of a
-- handle: where the resource was changed, and is not protected.
abbrev pub stored_found : Option Found → List ℕ → Resources → Resources
stored_found None bytes r = r
stored_found (Some at) bytes r = if is_to_write at.reference.here
    then record r { chain = with_reference (stored_anew (Some bytes) at.reference.here) at } else r

-- The resources once these blocks were purged, one after another.
abbrev pub stored_gone : List Gone → Resources → Resources
stored_gone [] r = r
stored_gone (g ∷ gone) r = stored_gone gone (stored_found (find_open (has_handle g.0) r) g.1 r)

-- The blocks that are stored of those that a call purges: none while SetResPurge is off.
abbrev pub heard : Bool → List Gone → List Gone
heard on gone = if on then gone else []

-- What was reported to a sink of resources, and what it was offered since; and whether it listens.
pub record PurgesValue : Type 0 where
  pub on : Bool
  pub told : List Gone
  pub offered : List Gone

-- A purged block, as a value of the definitions.
abbrev pub view_purged : Purged → Gone
view_purged p = (p.handle, p.bytes.items)
