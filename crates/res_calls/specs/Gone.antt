use Rattle.std.specs.Prelude.{ℕ, ℤ, Bool, true, ◌&&◌, not, nat_lt, Option, Some, None, Result, Ok, Err, List, [], ◌∷◌}
use Rattle.std.specs.Prelude.{◌++◌, if◌then◌else◌}
use Rattle.mac_words.specs.declared.code.OsErr.{OsErr}
use Rattle.heap_calls.specs.Gone.{Gone}
use Rattle.heap_calls.specs.Inside.{has_block, new_filled, new_empty, refill}
use Rattle.heap_calls.specs.Rows.{purges_made}
use Rattle.heap_calls.specs.State.{Resource, Memory}
use Rattle.res_map.specs.Split.{Split, place}
use Rattle.res_map.specs.Map.{Reference, Map, is_named, is_preload, is_resource}
use Rattle.res_calls.specs.Asked.{ResourceAsked, OpenResFile, GetResource, Get1Resource, GetNamedResource}
use Rattle.res_calls.specs.Asked.{Get1NamedResource, GetIndResource, LoadResource}
use Rattle.res_calls.specs.Fetch.{Managers, flags_of, preload_one}
use Rattle.res_calls.specs.Files.{File, OpenFile, Found, file_named, find_from_current, find_in_current, open_at}
use Rattle.res_calls.specs.Own.{find_own}
use Rattle.res_calls.specs.Rows.{greatest_number, map_in, nth_among, resource_of}

-- What a call of the Resource Manager purges for room: the handle and the bytes of each block, the lowest block of each
-- search first. More Macintosh Toolbox, chapter 1, "Reading Resources into Memory".

-- The blocks that the new handle of a reference purges, whatever its role: with a block where loading is on, and else
-- without one.
abbrev pub handle_gone : Bool → Reference → Memory → List Gone
handle_gone loading x m = if loading then purges_made (new_filled Resource (flags_of x) x.stored.datum) m.heap
    else purges_made (new_empty Resource) m.heap

-- The blocks that a fetch purges: for a new handle; or for a new block of an empty handle, where loading is on.
abbrev pub fetch_gone_as : Bool → Found → Option ℕ → Managers → List Gone
fetch_gone_as loading at None s = handle_gone loading at.reference.here s.memory
fetch_gone_as loading at (Some h) s = if loading && not (has_block h s.memory.heap)
    then purges_made (refill h (flags_of at.reference.here) at.reference.here.stored.datum) s.memory.heap else []

-- The blocks that the fetch of a found reference purges.
abbrev pub fetch_gone : Bool → Option Found → Managers → List Gone
fetch_gone loading None s = []
fetch_gone loading (Some at) s = fetch_gone_as loading at at.reference.here.handle s

-- The same, as SetResLoad has set loading.
abbrev pub fetched_gone : Option Found → Managers → List Gone
fetched_gone found s = fetch_gone s.resources.loading found s

-- The blocks that the preloading of some references purges, for one after another.
abbrev pub preload_one_gone : Reference → Memory → List Gone
preload_one_gone x m = if is_preload x then handle_gone true x m else []

abbrev pub preload_gone : List Reference → Memory → List Gone
preload_gone [] m = []
preload_gone (x ∷ references) m = preload_one_gone x m ++ preload_gone references (preload_one x m).memory

-- The blocks that OpenResFile purges: those of the preloading, where loading is on and the file is opened.
abbrev pub load_gone : Bool → List Reference → Memory → List Gone
load_gone loading references m = if loading then preload_gone references m else []

abbrev pub map_gone : Result Map OsErr → Managers → List Gone
map_gone (Err code) s = []
map_gone (Ok read) s = load_gone s.resources.loading read.references s.memory

abbrev pub fork_gone : List ℕ → Managers → List Gone
fork_gone fork s = if nat_lt greatest_number s.resources.next then [] else map_gone (map_in fork) s

abbrev pub unless_open_gone : Split File → Option (Split OpenFile) → Managers → List Gone
unless_open_gone at (Some f) s = []
unless_open_gone at None s = fork_gone at.here.fork s

abbrev pub open_gone : Option (Split File) → Managers → List Gone
open_gone None s = []
open_gone (Some at) s = unless_open_gone at (open_at (place at) s.resources) s

-- The blocks that a call purges for room; none where the call neither fetches nor opens a file.
abbrev pub gone_for : ResourceAsked → Managers → List Gone
gone_for (OpenResFile name) s = open_gone (file_named name s.resources) s
gone_for (GetResource kind id) s = fetched_gone (find_from_current (is_resource kind id) s.resources) s
gone_for (Get1Resource kind id) s = fetched_gone (find_in_current (is_resource kind id) s.resources) s
gone_for (GetNamedResource kind name) s = fetched_gone (find_from_current (is_named kind name) s.resources) s
gone_for (Get1NamedResource kind name) s = fetched_gone (find_in_current (is_named kind name) s.resources) s
gone_for (GetIndResource among kind index) s = fetched_gone (nth_among among kind index s.resources) s
gone_for (LoadResource handle) s = fetch_gone true (resource_of handle s.resources) s
gone_for asked s = []

-- The blocks that the fetch from the application's own fork purges.
abbrev pub own_gone : ℕ → ℤ → Managers → List Gone
own_gone kind id s = fetch_gone true (find_own kind id s.resources) s
