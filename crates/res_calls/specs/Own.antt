use Rattle.std.specs.Prelude.{ℕ, ℤ, true, Option, List, option_map, option_and_then}
use Rattle.res_map.specs.Map.{is_resource}
use Rattle.res_calls.specs.Files.{Resources, Found, find, is_at}
use Rattle.res_calls.specs.Fetch.{Managers, Answer, Fetched}
use Rattle.res_calls.specs.Rows.{fetched_as}

-- The resources of the application's own fork, which is the fork of its first file, under whatever number the file is
-- open and whichever file is current. Inside Macintosh: Processes, chapter 7, "The Segment Manager".

-- The first reference of a type and ID in the application's own fork; None where the fork is not open or has no such
-- reference.
-- See decision 69 (the own fork keeps its role under any number).
abbrev pub find_own : ℕ → ℤ → Resources → Option Found
find_own kind id r = find (λ f. is_at 0 f.file) (is_resource kind id) r.chain

-- The stored data of that resource.
abbrev pub own_datum : ℕ → ℤ → Resources → Option (List ℕ)
own_datum kind id r = option_map (λ (at : Found). at.reference.here.stored.datum) (find_own kind id r)

-- The handle of that resource, where it has one.
abbrev pub own_handle : ℕ → ℤ → Resources → Option ℕ
own_handle kind id r = option_and_then (λ (at : Found). at.reference.here.handle) (find_own kind id r)

-- The fetch of that resource, which is done as with loading on, whatever SetResLoad has set.
abbrev pub fetch_own : ℕ → ℤ → Managers → Answer Fetched
fetch_own kind id s = fetched_as true (find_own kind id s.resources) s
