use Rattle.res_calls.proofs.Cited.{◌≡◌, ◌≤◌, ◌<◌, ◌+◌, ◌^◌, ◌||◌, ◌==◌, nat_lt, ℕ, Bool, true, false, Option, Some, None, List, [], ◌∷◌}
use Rattle.res_calls.proofs.Cited.{refl, sym, ◌∙◌, ap, cond, length, not, ◌&&◌, list_any, Result, Ok, Err, OsErr, Map, map_in, count}
use Rattle.res_calls.proofs.Cited.{is_masters, counted, Split, place, Reference, is_preload, is_changed, is_protected, is_handle}
use Rattle.res_calls.proofs.Cited.{has_handle, with_handle, is_resource, is_named, Memory, Resource, Known, handle_at, owned_as, has_block}
use Rattle.res_calls.proofs.Cited.{Step, NewFilled, Release, Cast, walk, steps_dispose, unsearched, step-searches, releases, File, OpenFile}
use Rattle.res_calls.proofs.Cited.{Resources, Found, find_from_current, find_in_current, file_of, file_named, open_at, Managers, flags_of}
use Rattle.res_calls.proofs.Cited.{is_system, update, resource_of, handles_of, greatest_number, nth_among, bars, ResourceAsked, holds}
use Rattle.res_calls.proofs.Cited.{is_unchanged, disposes_of, opens_file}
use Rattle.res_calls.proofs.Walks.Steps.{map_steps}
use Rattle.heap_calls.specs.Purging.{is_resource as is_owned}
use Rattle.res_calls.specs.Asked as asks
use Rattle.res_calls.proofs.Walks.Steps.{for_found, for_open, fetch_steps, fetch_steps_as, fetched_steps}
use Rattle.res_calls.proofs.Walks.Steps.{preload_steps}
use Rattle.res_calls.proofs.Walks.Steps.{load_steps, fork_steps, unless_steps, open_steps}
use Rattle.res_calls.proofs.Walks.Steps.{if_done, close_steps, on_handle, for_known, add_steps, remove_steps}
use Rattle.res_calls.proofs.Walks.Steps.{release_steps, detach_steps, steps_of, new_filled, new_empty, filled_again}

-- Which handles the steps of a call let go, and how often they search for room.

pub fetch-lets : (loading : Bool) (at : Found) (handle : Option ℕ) (h : ℕ)
    → steps_dispose (fetch_steps_as loading at handle) h ≡ false
fetch-lets true at None h = refl
fetch-lets false at None h = refl
fetch-lets true at (Some k) h = refl
fetch-lets false at (Some k) h = refl

pub found-lets : (found : Option Found) (steps : Found → List Step) (h : ℕ)
    → ((at : Found) → steps_dispose (steps at) h ≡ false) → steps_dispose (for_found found steps) h ≡ false
found-lets None steps h each = refl
found-lets (Some at) steps h each = each at

fetched-lets : (found : Option Found) (s : Managers) (h : ℕ) → steps_dispose (fetched_steps found s) h ≡ false
fetched-lets found s h = found-lets found (fetch_steps s.resources.loading) h
    (λ at. fetch-lets s.resources.loading at at.reference.here.handle h)

pub preload-lets : (references : List Reference) (h : ℕ) → steps_dispose (preload_steps references) h ≡ false
preload-lets [] h = refl
preload-lets (x ∷ references) h = by_bit (preload-lets references h) (is_preload x)
  where
    by_bit : steps_dispose (preload_steps references) h ≡ false → (t : Bool)
        → steps_dispose (cond t (NewFilled Resource (flags_of x) x.stored.datum ∷ preload_steps references)
        (preload_steps references)) h ≡ false
    by_bit behind true = behind
    by_bit behind false = behind

pub load-lets : (references : List Reference) (s : Managers) (h : ℕ) → steps_dispose (load_steps references s) h ≡ false
load-lets references s h = by_loading s.resources.loading
  where
    by_loading : (t : Bool) → steps_dispose (cond t (preload_steps references) []) h ≡ false
    by_loading true = preload-lets references h
    by_loading false = refl

map-lets : (read : Result Map OsErr) (s : Managers) (h : ℕ) → steps_dispose (map_steps read s) h ≡ false
map-lets (Err code) s h = refl
map-lets (Ok read) s h = load-lets read.references s h

fork-lets : (fork : List ℕ) (s : Managers) (h : ℕ) → steps_dispose (fork_steps fork s) h ≡ false
fork-lets fork s h = by_number (nat_lt greatest_number s.resources.next)
  where
    by_number : (full : Bool) → steps_dispose (cond full [] (map_steps (map_in fork) s)) h ≡ false
    by_number true = refl
    by_number false = map-lets (map_in fork) s h

unless-lets : (at : Split File) (o : Option (Split OpenFile)) (s : Managers) (h : ℕ)
    → steps_dispose (unless_steps at o s) h ≡ false
unless-lets at None s h = fork-lets at.here.fork s h
unless-lets at (Some f) s h = refl

open-lets : (o : Option (Split File)) (s : Managers) (h : ℕ) → steps_dispose (open_steps o s) h ≡ false
open-lets None s h = refl
open-lets (Some at) s h = unless-lets at (open_at (place at) s.resources) s h

-- handles that are released are those of the references
releases-lets : (references : List Reference) (h : ℕ)
    → list_any (has_handle h) references ≡ steps_dispose (releases (handles_of references)) h
releases-lets [] h = refl
releases-lets (x ∷ references) h = by_handle (releases-lets references h) x.handle
  where
    by_handle : list_any (has_handle h) references ≡ steps_dispose (releases (handles_of references)) h → (o : Option ℕ)
        → (is_handle h o || list_any (has_handle h) references)
        ≡ steps_dispose (releases (handles_of (with_handle o x ∷ references))) h
    by_handle behind None = behind
    by_handle behind (Some k) = ap (λ (t : Bool). k == h || t) behind

if_done-lets : (o : Option Resources) (handles : List ℕ) (h : ℕ) → steps_dispose (releases handles) h ≡ false
    → steps_dispose (if_done o (releases handles)) h ≡ false
if_done-lets None handles h e = refl
if_done-lets (Some r) handles h e = e

close-lets : (n : ℕ) (s : Managers) (o : Option (Split OpenFile)) (h : ℕ) → holds h o ≡ false
    → steps_dispose (for_open o (close_steps n s)) h ≡ false
close-lets n s None h e = refl
close-lets n s (Some at) h e = by_number (n == 0)
  where
    steps : List Step
    steps = if_done (update s.memory.heap at s.resources) (releases (handles_of at.here.map.references))

    by_number : (t : Bool) → steps_dispose (cond t [] steps) h ≡ false
    by_number true = refl
    by_number false = if_done-lets (update s.memory.heap at s.resources) (handles_of at.here.map.references) h
        (sym (releases-lets at.here.map.references h) ∙ e)

release-lets : (handle : Option ℕ) (s : Managers) (at : Found) (h : ℕ)
    → steps_dispose (on_handle handle Release) h ≡ false → steps_dispose (release_steps handle s at) h ≡ false
release-lets handle s at h e = by_tests (bars handle s.memory) (is_changed at.reference.here)
  where
    by_tests : (busy changed : Bool)
        → steps_dispose (cond busy [] (cond changed [] (on_handle handle Release))) h ≡ false
    by_tests true changed = refl
    by_tests false true = refl
    by_tests false false = e

-- a resource that was changed is not released
release-keeps : (k h : ℕ) (s : Managers) (o : Option Found) → (k == h && is_unchanged o) ≡ false
    → steps_dispose (for_found o (release_steps (Some k) s)) h ≡ false
release-keeps k h s None e = refl
release-keeps k h s (Some at) e = by_tests (bars (Some k) s.memory) (is_changed at.reference.here) e
  where
    by_number : (t : Bool) → (t && true) ≡ false → (t || false) ≡ false
    by_number true e = e
    by_number false e = refl

    by_tests : (busy changed : Bool) → (k == h && not changed) ≡ false
        → steps_dispose (cond busy [] (cond changed [] (Release k ∷ []))) h ≡ false
    by_tests true changed e = refl
    by_tests false true e = refl
    by_tests false false e = by_number (k == h) e

cast-lets : (handle : Option ℕ) (h : ℕ) → steps_dispose (on_handle handle (Cast (owned_as false))) h ≡ false
cast-lets None h = refl
cast-lets (Some k) h = refl

detach-lets : (handle : Option ℕ) (at : Found) (h : ℕ) → steps_dispose (detach_steps handle at) h ≡ false
detach-lets handle at h = by_change (is_changed at.reference.here)
  where
    by_change : (t : Bool) → steps_dispose (cond t [] (on_handle handle (Cast (owned_as false)))) h ≡ false
    by_change true = refl
    by_change false = cast-lets handle h

known-lets : (x : Result Known OsErr) (steps : Known → List Step) (h : ℕ)
    → ((k : Known) → steps_dispose (steps k) h ≡ false) → steps_dispose (for_known x steps) h ≡ false
known-lets (Err code) steps h each = refl
known-lets (Ok k) steps h each = each k

one_cast-lets : (o : Option (Split OpenFile)) (resource : Bool) (k h : ℕ)
    → steps_dispose (for_open o (λ at. Cast (owned_as resource) k ∷ [])) h ≡ false
one_cast-lets None resource k h = refl
one_cast-lets (Some at) resource k h = refl

add-lets : (s : Managers) (k : Known) (h : ℕ) → steps_dispose (add_steps s k) h ≡ false
add-lets s k h = by_tests (is_owned k.role || not (has_block k.number s.memory.heap)) (s.resources.current == 0)
  where
    by_tests : (bad system : Bool) → steps_dispose (cond bad [] (cond system []
        (for_open (file_of s.resources.current s.resources) (λ at. Cast (owned_as true) k.number ∷ [])))) h ≡ false
    by_tests true system = refl
    by_tests false true = refl
    by_tests false false = one_cast-lets (file_of s.resources.current s.resources) true k.number h

remove-lets : (s : Managers) (k : Known) (at : Found) (h : ℕ) → steps_dispose (remove_steps s k at) h ≡ false
remove-lets s k at h = by_tests (is_system at.file.here)
    (not (at.file.here.number == s.resources.current) || is_protected at.reference.here)
  where
    by_tests : (system kept : Bool)
        → steps_dispose (cond system [] (cond kept [] (Cast (owned_as false) k.number ∷ []))) h ≡ false
    by_tests true kept = refl
    by_tests false true = refl
    by_tests false false = refl

-- a call lets go only handles that it may dispose of
pub lets-walk : (h : ℕ) (a : ResourceAsked) (s : Managers) → disposes_of h a s ≡ false
    → steps_dispose (steps_of a s) h ≡ false
lets-walk h (asks.OpenResFile name) s e = open-lets (file_named name s.resources) s h
lets-walk h (asks.CloseResFile n) s e = close-lets n s (file_of n s.resources) h e
lets-walk h (asks.GetResource kind id) s e =
    fetched-lets (find_from_current (is_resource kind id) s.resources) s h
lets-walk h (asks.Get1Resource kind id) s e =
    fetched-lets (find_in_current (is_resource kind id) s.resources) s h
lets-walk h (asks.GetNamedResource kind name) s e =
    fetched-lets (find_from_current (is_named kind name) s.resources) s h
lets-walk h (asks.Get1NamedResource kind name) s e =
    fetched-lets (find_in_current (is_named kind name) s.resources) s h
lets-walk h (asks.GetIndResource among kind index) s e =
    fetched-lets (nth_among among kind index s.resources) s h
lets-walk h (asks.LoadResource handle) s e =
    found-lets (resource_of handle s.resources) (fetch_steps true) h
    (λ at. fetch-lets true at at.reference.here.handle h)
lets-walk h (asks.ReleaseResource None) s e =
    found-lets (resource_of None s.resources) (release_steps None s) h (λ at. release-lets None s at h refl)
lets-walk h (asks.ReleaseResource (Some k)) s e =
    release-keeps k h s (resource_of (Some k) s.resources) e
lets-walk h (asks.DetachResource handle) s e =
    found-lets (resource_of handle s.resources) (detach_steps handle) h (λ at. detach-lets handle at h)
lets-walk h (asks.AddResource handle kind id name) s e =
    known-lets (handle_at handle s.memory.heap) (add_steps s) h (λ k. add-lets s k h)
lets-walk h (asks.RemoveResource handle) s e = known-lets (handle_at handle s.memory.heap) _ h
    (λ k. found-lets (resource_of handle s.resources) (remove_steps s k) h (λ at. remove-lets s k at h))
lets-walk h asked s e = refl

-- steps search at most once more than there are blocks
abbrev pub SearchFew : List Step → Memory → Type 0
SearchFew steps m =
    0 < count is_masters m.heap.zone → m.log.searches < 2 ^ 64
    → (n : ℕ) × (n ≤ length m.heap.zone + 1) × ((walk steps m).log.searches ≡ counted m.log.searches n)

none-search : (m : Memory) → SearchFew [] m
none-search m masters fits = unsearched m.heap.zone m.log.searches fits

releases-searches : (handles : List ℕ) (m : Memory) → (walk (releases handles) m).log.searches ≡ m.log.searches
releases-searches [] m = refl
releases-searches (h ∷ handles) m = releases-searches handles _

releases-few : (handles : List ℕ) (m : Memory) → SearchFew (releases handles) m
releases-few handles m masters fits = let none = unsearched m.heap.zone m.log.searches fits in
    (none.0, none.1, releases-searches handles m ∙ none.2)

pub found-few : (found : Option Found) (steps : Found → List Step) (m : Memory)
    → ((at : Found) → SearchFew (steps at) m) → SearchFew (for_found found steps) m
found-few None steps m each = none-search m
found-few (Some at) steps m each = each at

pub fetch-few : (loading : Bool) (at : Found) (handle : Option ℕ) (m : Memory)
    → SearchFew (fetch_steps_as loading at handle) m
fetch-few true at None m = step-searches (new_filled at) m
fetch-few false at None m = step-searches (new_empty at) m
fetch-few true at (Some h) m = step-searches (filled_again at h) m
fetch-few false at (Some h) m = none-search m

fetched-few : (found : Option Found) (s : Managers) → SearchFew (fetched_steps found s) s.memory
fetched-few found s = found-few found (fetch_steps s.resources.loading) s.memory
    (λ at. fetch-few s.resources.loading at at.reference.here.handle s.memory)

if_done-few : (o : Option Resources) (handles : List ℕ) (m : Memory) → SearchFew (if_done o (releases handles)) m
if_done-few None handles m = none-search m
if_done-few (Some r) handles m = releases-few handles m

open-few : (o : Option (Split OpenFile)) (steps : Split OpenFile → List Step) (m : Memory)
    → ((at : Split OpenFile) → SearchFew (steps at) m) → SearchFew (for_open o steps) m
open-few None steps m each = none-search m
open-few (Some at) steps m each = each at

close-few : (n : ℕ) (s : Managers) (at : Split OpenFile) → SearchFew (close_steps n s at) s.memory
close-few n s at = by_number (n == 0)
  where
    steps : List Step
    steps = if_done (update s.memory.heap at s.resources) (releases (handles_of at.here.map.references))

    by_number : (t : Bool) → SearchFew (cond t [] steps) s.memory
    by_number true = none-search s.memory
    by_number false =
        if_done-few (update s.memory.heap at s.resources) (handles_of at.here.map.references) s.memory

handle-few : (handle : Option ℕ) (step : ℕ → Step) (m : Memory) → SearchFew (on_handle handle step) m
handle-few None step m = none-search m
handle-few (Some h) step m = step-searches (step h) m

release-few : (handle : Option ℕ) (s : Managers) (at : Found) → SearchFew (release_steps handle s at) s.memory
release-few handle s at = by_tests (bars handle s.memory) (is_changed at.reference.here)
  where
    by_tests : (busy changed : Bool) → SearchFew (cond busy [] (cond changed [] (on_handle handle Release))) s.memory
    by_tests true changed = none-search s.memory
    by_tests false true = none-search s.memory
    by_tests false false = handle-few handle Release s.memory

detach-few : (handle : Option ℕ) (at : Found) (m : Memory) → SearchFew (detach_steps handle at) m
detach-few handle at m = by_change (is_changed at.reference.here)
  where
    by_change : (t : Bool) → SearchFew (cond t [] (on_handle handle (Cast (owned_as false)))) m
    by_change true = none-search m
    by_change false = handle-few handle (Cast (owned_as false)) m

known-few : (x : Result Known OsErr) (steps : Known → List Step) (m : Memory)
    → ((k : Known) → SearchFew (steps k) m) → SearchFew (for_known x steps) m
known-few (Err code) steps m each = none-search m
known-few (Ok k) steps m each = each k

add-few : (s : Managers) (k : Known) → SearchFew (add_steps s k) s.memory
add-few s k = by_tests (is_owned k.role || not (has_block k.number s.memory.heap)) (s.resources.current == 0)
  where
    by_tests : (bad system : Bool) → SearchFew (cond bad [] (cond system []
        (for_open (file_of s.resources.current s.resources) (λ at. Cast (owned_as true) k.number ∷ [])))) s.memory
    by_tests true system = none-search s.memory
    by_tests false true = none-search s.memory
    by_tests false false = open-few (file_of s.resources.current s.resources) _ s.memory
        (λ at. step-searches (Cast (owned_as true) k.number) s.memory)

remove-few : (s : Managers) (k : Known) (at : Found) → SearchFew (remove_steps s k at) s.memory
remove-few s k at = by_tests (is_system at.file.here)
    (not (at.file.here.number == s.resources.current) || is_protected at.reference.here)
  where
    by_tests : (system kept : Bool)
        → SearchFew (cond system [] (cond kept [] (Cast (owned_as false) k.number ∷ []))) s.memory
    by_tests true kept = none-search s.memory
    by_tests false true = none-search s.memory
    by_tests false false = step-searches (Cast (owned_as false) k.number) s.memory

-- and so do those of a call that opens no file
pub searches-walk : (a : ResourceAsked) (s : Managers) → opens_file a ≡ false → SearchFew (steps_of a s) s.memory
searches-walk (asks.OpenResFile name) s e = cc
searches-walk (asks.CloseResFile n) s e =
    open-few (file_of n s.resources) (close_steps n s) s.memory (λ at. close-few n s at)
searches-walk (asks.GetResource kind id) s e = fetched-few (find_from_current (is_resource kind id) s.resources) s
searches-walk (asks.Get1Resource kind id) s e = fetched-few (find_in_current (is_resource kind id) s.resources) s
searches-walk (asks.GetNamedResource kind name) s e = fetched-few (find_from_current (is_named kind name) s.resources) s
searches-walk (asks.Get1NamedResource kind name) s e = fetched-few (find_in_current (is_named kind name) s.resources) s
searches-walk (asks.GetIndResource among kind index) s e =
    fetched-few (nth_among among kind index s.resources) s
searches-walk (asks.LoadResource handle) s e = found-few (resource_of handle s.resources) (fetch_steps true) s.memory
    (λ at. fetch-few true at at.reference.here.handle s.memory)
searches-walk (asks.ReleaseResource handle) s e =
    found-few (resource_of handle s.resources) (release_steps handle s) s.memory (λ at. release-few handle s at)
searches-walk (asks.DetachResource handle) s e =
    found-few (resource_of handle s.resources) (detach_steps handle) s.memory (λ at. detach-few handle at s.memory)
searches-walk (asks.AddResource handle kind id name) s e =
    known-few (handle_at handle s.memory.heap) (add_steps s) s.memory (λ k. add-few s k)
searches-walk (asks.RemoveResource handle) s e = known-few (handle_at handle s.memory.heap) _ s.memory
    (λ k. found-few (resource_of handle s.resources) (remove_steps s k) s.memory (λ at. remove-few s k at))
searches-walk asked s e = none-search s.memory
