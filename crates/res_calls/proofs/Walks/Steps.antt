use Rattle.res_calls.proofs.Cited.{Result, Ok, Err, ℕ, Bool, true, false, not, ◌||◌, Option, Some, None, List, [], ◌∷◌, ◌==◌, nat_lt}
use Rattle.res_calls.proofs.Cited.{if◌then◌else◌, OsErr, Split, place, Reference, Map, is_preload, is_changed, is_protected, is_resource}
use Rattle.res_calls.proofs.Cited.{is_named, Resource, Known, handle_at, resource_role, owned_as, has_block, Step, NewFilled, NewEmpty}
use Rattle.res_calls.proofs.Cited.{Refill, Release, Cast, releases, File, OpenFile, Resources, Found, find_from_current, find_in_current}
use Rattle.res_calls.proofs.Cited.{file_of, file_named, open_at, Managers, flags_of, is_system, resource_of, handles_of, greatest_number}
use Rattle.res_calls.proofs.Cited.{map_in, nth_among, bars, ResourceAsked, OpenResFile, CloseResFile, GetResource, Get1Resource}
use Rattle.res_calls.proofs.Cited.{GetNamedResource, Get1NamedResource, GetIndResource, LoadResource, ReleaseResource, DetachResource}
use Rattle.res_calls.proofs.Cited.{AddResource, RemoveResource, update}
use Rattle.heap_calls.specs.Purging.{is_resource as is_owned}

-- The steps that each call of the Resource Manager takes on the heap.

-- for what was found, or for an open file; else none
abbrev pub for_found : Option Found → (Found → List Step) → List Step
for_found None steps = []
for_found (Some at) steps = steps at

abbrev pub for_open : Option (Split OpenFile) → (Split OpenFile → List Step) → List Step
for_open None steps = []
for_open (Some at) steps = steps at

-- a new handle with the datum, or emptied
abbrev pub new_filled : Found → Step
new_filled at = NewFilled (resource_role (is_system at.file.here)) (flags_of at.reference.here)
    at.reference.here.stored.datum

abbrev pub new_empty : Found → Step
new_empty at = NewEmpty (resource_role (is_system at.file.here))

-- an empty handle is filled
abbrev pub filled_again : Found → ℕ → Step
filled_again at h = Refill h (flags_of at.reference.here) at.reference.here.stored.datum

-- the steps of a fetch, by whether loading is on and by the reference's handle
abbrev pub fetch_steps_as : Bool → Found → Option ℕ → List Step
fetch_steps_as loading at None = if loading then new_filled at ∷ [] else new_empty at ∷ []
fetch_steps_as loading at (Some h) = if loading then filled_again at h ∷ [] else []

abbrev pub fetch_steps : Bool → Found → List Step
fetch_steps loading at = fetch_steps_as loading at at.reference.here.handle

abbrev pub fetched_steps : Option Found → Managers → List Step
fetched_steps found s = for_found found (fetch_steps s.resources.loading)

-- the references that are read as their file is opened
abbrev pub preload_steps : List Reference → List Step
preload_steps [] = []
preload_steps (x ∷ references) =
    if is_preload x then NewFilled Resource (flags_of x) x.stored.datum ∷ preload_steps references
    else preload_steps references

abbrev pub load_steps : List Reference → Managers → List Step
load_steps references s = if s.resources.loading then preload_steps references else []

-- an opening, step by step as it is defined
abbrev pub map_steps : Result Map OsErr → Managers → List Step
map_steps (Err code) s = []
map_steps (Ok read) s = load_steps read.references s

abbrev pub fork_steps : List ℕ → Managers → List Step
fork_steps fork s = if nat_lt greatest_number s.resources.next then [] else map_steps (map_in fork) s

abbrev pub unless_steps : Split File → Option (Split OpenFile) → Managers → List Step
unless_steps at (Some f) s = []
unless_steps at None s = fork_steps at.here.fork s

abbrev pub open_steps : Option (Split File) → Managers → List Step
open_steps None s = []
open_steps (Some at) s = unless_steps at (open_at (place at) s.resources) s

-- the handles of a file that is closed, if it could be updated
abbrev pub if_done : Option Resources → List Step → List Step
if_done None steps = []
if_done (Some r) steps = steps

abbrev pub close_steps : ℕ → Managers → Split OpenFile → List Step
close_steps n s at = if n == 0 then []
    else if_done (update s.memory.heap at s.resources) (releases (handles_of at.here.map.references))

-- the handle of a resource, if it is bound
abbrev pub on_handle : Option ℕ → (ℕ → Step) → List Step
on_handle None step = []
on_handle (Some h) step = step h ∷ []

abbrev pub release_steps : Option ℕ → Managers → Found → List Step
release_steps handle s at =
    if bars handle s.memory then [] else if is_changed at.reference.here then [] else on_handle handle Release

abbrev pub detach_steps : Option ℕ → Found → List Step
detach_steps handle at = if is_changed at.reference.here then [] else on_handle handle (Cast (owned_as false))

-- for a handle of the heap, else none
abbrev pub for_known : Result Known OsErr → (Known → List Step) → List Step
for_known (Err code) steps = []
for_known (Ok k) steps = steps k

-- a handle becomes a resource's of the current file
abbrev pub add_steps : Managers → Known → List Step
add_steps s k =
    if is_owned k.role || not (has_block k.number s.memory.heap) then []
    else if s.resources.current == 0 then []
    else for_open (file_of s.resources.current s.resources) (λ at. Cast (owned_as true) k.number ∷ [])

-- a resource of the current file is removed
abbrev pub remove_steps : Managers → Known → Found → List Step
remove_steps s k at =
    if is_system at.file.here then []
    else if not (at.file.here.number == s.resources.current) || is_protected at.reference.here then []
    else Cast (owned_as false) k.number ∷ []

-- the steps of a call
abbrev pub steps_of : ResourceAsked → Managers → List Step
steps_of (OpenResFile name) s = open_steps (file_named name s.resources) s
steps_of (CloseResFile n) s = for_open (file_of n s.resources) (close_steps n s)
steps_of (GetResource kind id) s = fetched_steps (find_from_current (is_resource kind id) s.resources) s
steps_of (Get1Resource kind id) s = fetched_steps (find_in_current (is_resource kind id) s.resources) s
steps_of (GetNamedResource kind name) s = fetched_steps (find_from_current (is_named kind name) s.resources) s
steps_of (Get1NamedResource kind name) s = fetched_steps (find_in_current (is_named kind name) s.resources) s
steps_of (GetIndResource among kind index) s =
    fetched_steps (nth_among among kind index s.resources) s
steps_of (LoadResource handle) s = for_found (resource_of handle s.resources) (fetch_steps true)
steps_of (ReleaseResource handle) s = for_found (resource_of handle s.resources) (release_steps handle s)
steps_of (DetachResource handle) s = for_found (resource_of handle s.resources) (detach_steps handle)
steps_of (AddResource handle kind id name) s = for_known (handle_at handle s.memory.heap) (add_steps s)
steps_of (RemoveResource handle) s =
    for_known (handle_at handle s.memory.heap) (λ k. for_found (resource_of handle s.resources) (remove_steps s k))
steps_of asked s = []
