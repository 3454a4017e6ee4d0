-- What whole calls of the Resource Manager report is what they purge.
use Rattle.res_calls.proofs.Cited.{◌≡◌, ℕ, ℤ, ◌≤◌, ◌<◌, Bool, true, false, not, List, [], ◌∷◌, ◌++◌, length, refl, sym, ◌∙◌, ap, subst}
use Rattle.res_calls.proofs.Cited.{cond, arith, nat_lt, Option, Some, None, Result, Ok, Err, nat_tests, OsErr, sizes, count, is_relocatable}
use Rattle.res_calls.proofs.Cited.{has, GREATEST_ZONE, State, Memory, Resource, has_purgeable, Gone, handle_gone, refill, purges_made}
use Rattle.res_calls.proofs.Cited.{has_block, new_inside, Step, NewFilled, walk, reads, told_of, bytes_in, steps-purgeable, Split, place}
use Rattle.res_calls.proofs.Cited.{Reference, Map, is_named, is_preload, is_resource, ResourceAsked, served, disposes_of, Managers, Reads}
use Rattle.res_calls.proofs.Cited.{flags_of, given, fetches, File, OpenFile, Found, file_named, find_from_current, find_in_current, open_at}
use Rattle.res_calls.proofs.Cited.{fetch_gone_as, fetch_gone, preload_gone, load_gone, map_gone, fork_gone, unless_open_gone, open_gone}
use Rattle.res_calls.proofs.Cited.{gone_for, own_gone, find_own, fetch_own, greatest_number, map_in, nth_among, resource_of, TellsWhatGoes}
use Rattle.res_calls.proofs.Cited.{TellsOfPurgeable, TellsWhatPreloadsLose, TellsOnce, IsWhole, weighed}
use Rattle.std.proofs.Common.{append-nil}
use Rattle.res_calls.specs.Asked as asks
use Rattle.res_calls.proofs.ToldGone.Filled.{many-length, none-bytes}
use Rattle.res_calls.proofs.ToldGone.Paths.{Fills, Single, OnceEach, gone_along, had, path-tells, single-tells, single-beyond}
use Rattle.res_calls.proofs.ToldGone.Paths.{reads-once}
use Rattle.res_calls.proofs.Walks.Laws.{heap-walks, reads-walk}
use Rattle.res_calls.proofs.Walks.Letting.{lets-walk}
use Rattle.res_calls.proofs.Walks.Own.{own_steps, own-goes, own-purgeable}
use Rattle.res_calls.proofs.Walks.Steps.{for_found, fetch_steps_as, fetch_steps, preload_steps, map_steps, fork_steps}
use Rattle.res_calls.proofs.Walks.Steps.{unless_steps, open_steps, steps_of}
use Rattle.res_calls.proofs.Walks.Going.{given-memory}

-- the table of a fetch names what its step purges
fetch-along : (loading : Bool) (at : Found) (o : Option ℕ) (s : Managers)
    → (fetch_gone_as loading at o s ≡ gone_along (fetch_steps_as loading at o) s.memory)
    × Single (fetch_steps_as loading at o)
fetch-along true at None s = (sym (append-nil _), λ h. refl)
fetch-along false at None s = (sym (append-nil _), λ h. refl)
fetch-along true at (Some k) s = (by_block (has_block k s.memory.heap), λ h. refl)
  where
    again : List Gone
    again = purges_made (refill k (flags_of at.reference.here) at.reference.here.stored.datum) s.memory.heap

    by_block : (t : Bool) → cond (not t) again [] ≡ cond t [] again ++ []
    by_block true = refl
    by_block false = sym (append-nil again)
fetch-along false at (Some k) s = (refl, tt)

found-along : (loading : Bool) (found : Option Found) (s : Managers)
    → (fetch_gone loading found s ≡ gone_along (for_found found (fetch_steps loading)) s.memory)
    × Single (for_found found (fetch_steps loading))
found-along loading None s = (refl, tt)
found-along loading (Some at) s = fetch-along loading at at.reference.here.handle s

-- and so does that of each call that fetches
fetched-along : (a : ResourceAsked) (s : Managers) → fetches a ≡ true
    → (gone_for a s ≡ gone_along (steps_of a s) s.memory) × Single (steps_of a s)
fetched-along (asks.GetResource kind id) s is =
    found-along s.resources.loading (find_from_current (is_resource kind id) s.resources) s
fetched-along (asks.Get1Resource kind id) s is =
    found-along s.resources.loading (find_in_current (is_resource kind id) s.resources) s
fetched-along (asks.GetNamedResource kind name) s is =
    found-along s.resources.loading (find_from_current (is_named kind name) s.resources) s
fetched-along (asks.Get1NamedResource kind name) s is =
    found-along s.resources.loading (find_in_current (is_named kind name) s.resources) s
fetched-along (asks.GetIndResource among kind index) s is =
    found-along s.resources.loading (nth_among among kind index s.resources) s
fetched-along (asks.LoadResource handle) s is = found-along true (resource_of handle s.resources) s
fetched-along a s is = let no : false ≡ true = is in cc

-- a table that names what a path of one step purges
module _ (s : Managers) (steps : List Step) (gone : List Gone) (after : Memory)
    (along : gone ≡ gone_along steps s.memory) (single : Single steps) (walks : after ≡ walk steps s.memory)
  where
    single-goes : OnceEach s.memory.heap → sizes s.memory.heap.zone ≤ GREATEST_ZONE
        → TellsWhatGoes gone s.memory.heap after.heap
    single-goes once small h within =
        ap (told_of h) along ∙ single-tells steps s.memory single once small h within
        ∙ ap (λ (m : Memory). cond (has_block h m.heap) [] (bytes_in h s.memory.heap.zone)) (sym walks)

    single-none : (h : ℕ) → length s.memory.heap.names ≤ h → told_of h gone ≡ []
    single-none h high = ap (told_of h) along ∙ single-beyond steps s.memory single h high

-- a block that is reported was there before, and is not there after
pub went : (told : List (List ℕ)) (h : ℕ) (before after : State)
    → told ≡ cond (has_block h after) [] (bytes_in h before.zone) → 0 < length told
    → (has_block h before ≡ true) × (has_block h after ≡ false)
went told h before after is some = by_blocks (has_block h before) (has_block h after) refl is
  where
    none : told ≡ [] → ⊥
    none e = let z : length told ≡ 0 = ap {B = ℕ} (λ (l : List (List ℕ)). length l) e in absurd (omega arith)

    by_blocks : (t u : Bool) → has_block h before ≡ t → told ≡ cond u [] (bytes_in h before.zone)
        → (t ≡ true) × (u ≡ false)
    by_blocks true false e is = (refl, refl)
    by_blocks false false e is = absurd (none (is ∙ none-bytes h before.zone e))
    by_blocks t true e is = absurd (none is)

-- a handle that has one block at most is reported once at most
few-bytes : (h : ℕ) (s : State) (t : Bool) → count (is_relocatable h) s.zone ≤ 1
    → length (cond t [] (bytes_in h s.zone)) ≤ 1
few-bytes h s true once = omega arith
few-bytes h s false once =
    omega (arith, weighed (λ x. 1) h s.zone, many-length (bytes_in h s.zone))

few-told : (told : List (List ℕ)) (bytes : List (List ℕ)) → told ≡ bytes → length bytes ≤ 1 → length told ≤ 1
few-told told bytes is few = subst (λ (l : List (List ℕ)). length l ≤ 1) (sym is) few

once-told : (s after : State) (gone : List Gone) → OnceEach s → TellsWhatGoes gone s after
    → ((h : ℕ) → length s.names ≤ h → told_of h gone ≡ []) → TellsOnce gone
once-told s after gone once goes none h = by_number (nat_lt h (length s.names)) refl
  where
    by_number : (t : Bool) → nat_lt h (length s.names) ≡ t → length (told_of h gone) ≤ 1
    by_number true e =
        let within : h < length s.names = grind (arith, nat_tests, e) in
        few-told (told_of h gone) _ (goes h within) (few-bytes h s (has_block h after) (once h within))
    by_number false e =
        few-told (told_of h gone) [] (none h (grind (arith, nat_tests, e))) (omega arith)

-- each call that fetches
pub fetched-goes : (a : ResourceAsked) (s : Managers) → fetches a ≡ true → OnceEach s.memory.heap
    → sizes s.memory.heap.zone ≤ GREATEST_ZONE
    → TellsWhatGoes (gone_for a s) s.memory.heap (served a s).after.memory.heap
fetched-goes a s is once small =
    let f = fetched-along a s is in
    single-goes s (steps_of a s) (gone_for a s) (served a s).after.memory f.0 f.1 (heap-walks a s) once small

pub fetched-none : (a : ResourceAsked) (s : Managers) → fetches a ≡ true → (h : ℕ) → length s.memory.heap.names ≤ h
    → told_of h (gone_for a s) ≡ []
fetched-none a s is h high =
    let f = fetched-along a s is in
    single-none s (steps_of a s) (gone_for a s) (served a s).after.memory f.0 f.1 (heap-walks a s) h high

fetched-keeps : (a : ResourceAsked) (s : Managers) (h : ℕ) → fetches a ≡ true → disposes_of h a s ≡ false
fetched-keeps (asks.GetResource kind id) s h is = refl
fetched-keeps (asks.Get1Resource kind id) s h is = refl
fetched-keeps (asks.GetNamedResource kind name) s h is = refl
fetched-keeps (asks.Get1NamedResource kind name) s h is = refl
fetched-keeps (asks.GetIndResource among kind index) s h is = refl
fetched-keeps (asks.LoadResource handle) s h is = refl
fetched-keeps a s h is = let no : false ≡ true = is in cc

purgeable-told : (s : Managers) (gone : List Gone) (after : State) → TellsWhatGoes gone s.memory.heap after
    → ((h : ℕ) → length s.memory.heap.names ≤ h → told_of h gone ≡ [])
    → ((h : ℕ) → has (is_relocatable h) s.memory.heap.zone ≡ true → has (is_relocatable h) after.zone ≡ false
    → has_purgeable h s.memory.heap.zone ≡ true)
    → TellsOfPurgeable gone s.memory.heap
purgeable-told s gone after goes none loses h some = by_number (nat_lt h (length s.memory.heap.names)) refl
  where
    by_number : (t : Bool) → nat_lt h (length s.memory.heap.names) ≡ t
        → (h < length s.memory.heap.names) × (has_purgeable h s.memory.heap.zone ≡ true)
    by_number true e =
        let within : h < length s.memory.heap.names = grind (arith, nat_tests, e) in
        let w = went (told_of h gone) h s.memory.heap after (goes h within) some in
        (within, loses h w.0 w.1)
    by_number false e = absurd (
        let z : length (told_of h gone) ≡ 0 =
        ap {B = ℕ} (λ (l : List (List ℕ)). length l) (none h (grind (arith, nat_tests, e))) in omega arith)

pub fetched-purgeable : (a : ResourceAsked) (s : Managers) → fetches a ≡ true → OnceEach s.memory.heap
    → sizes s.memory.heap.zone ≤ GREATEST_ZONE → TellsOfPurgeable (gone_for a s) s.memory.heap
fetched-purgeable a s is once small =
    purgeable-told s (gone_for a s) (served a s).after.memory.heap (fetched-goes a s is once small)
    (fetched-none a s is)
    (λ h before after. steps-purgeable (steps_of a s) s.memory h (lets-walk h a s (fetched-keeps a s h is)) before
    (subst (λ (m : Memory). has (is_relocatable h) m.heap.zone ≡ false) (heap-walks a s) after))

pub fetched-once : (a : ResourceAsked) (s : Managers) → fetches a ≡ true → OnceEach s.memory.heap
    → sizes s.memory.heap.zone ≤ GREATEST_ZONE → TellsOnce (gone_for a s)
fetched-once a s is once small = once-told s.memory.heap (served a s).after.memory.heap (gone_for a s) once
    (fetched-goes a s is once small) (fetched-none a s is)

-- the fetch from the application's own fork
pub own-tells : (kind : ℕ) (id : ℤ) (s : Managers) → OnceEach s.memory.heap
    → sizes s.memory.heap.zone ≤ GREATEST_ZONE
    → TellsWhatGoes (own_gone kind id s) s.memory.heap (fetch_own kind id s).after.memory.heap
own-tells kind id s once small =
    let f = found-along true (find_own kind id s.resources) s in
    single-goes s (own_steps kind id s.resources) (own_gone kind id s) (fetch_own kind id s).after.memory f.0 f.1
    (own-goes kind id s).heap once small

pub own-none : (kind : ℕ) (id : ℤ) (s : Managers) (h : ℕ) → length s.memory.heap.names ≤ h
    → told_of h (own_gone kind id s) ≡ []
own-none kind id s h high =
    let f = found-along true (find_own kind id s.resources) s in
    single-none s (own_steps kind id s.resources) (own_gone kind id s) (fetch_own kind id s).after.memory f.0 f.1
    (own-goes kind id s).heap h high

pub own-loose : (kind : ℕ) (id : ℤ) (s : Managers) → OnceEach s.memory.heap
    → sizes s.memory.heap.zone ≤ GREATEST_ZONE → TellsOfPurgeable (own_gone kind id s) s.memory.heap
own-loose kind id s once small =
    purgeable-told s (own_gone kind id s) (fetch_own kind id s).after.memory.heap (own-tells kind id s once small)
    (own-none kind id s) (λ h before after. own-purgeable kind id s h before after)

pub own-once : (kind : ℕ) (id : ℤ) (s : Managers) → OnceEach s.memory.heap
    → sizes s.memory.heap.zone ≤ GREATEST_ZONE → TellsOnce (own_gone kind id s)
own-once kind id s once small = once-told s.memory.heap (fetch_own kind id s).after.memory.heap (own_gone kind id s)
    once (own-tells kind id s once small) (own-none kind id s)

-- a preloading
pub preload-along : (references : List Reference) (m : Memory)
    → preload_gone references m ≡ gone_along (preload_steps references) m
preload-along [] m = refl
preload-along (x ∷ references) m = by_bit (λ k. preload-along references k) (is_preload x)
  where
    new : Result ℕ OsErr × Memory
    new = new_inside Resource (flags_of x) x.stored.datum m

    first : List Gone
    first = handle_gone true x m

    by_bit : ((k : Memory) → preload_gone references k ≡ gone_along (preload_steps references) k) → (t : Bool)
        → cond t first [] ++ preload_gone references (cond t (given x new)
        (record { references = x ∷ []; memory = m; reads = [] })).memory
        ≡ gone_along (cond t (NewFilled Resource (flags_of x) x.stored.datum ∷ preload_steps references)
        (preload_steps references)) m
    by_bit later true = ap (λ (k : Memory). first ++ preload_gone references k) (given-memory x new)
        ∙ ap (λ (l : List Gone). first ++ l) (later new.1)
    by_bit later false = later m

pub preload-fills : (references : List Reference) → Fills (preload_steps references)
preload-fills [] = tt
preload-fills (x ∷ references) = by_bit (preload-fills references) (is_preload x)
  where
    by_bit : Fills (preload_steps references) → (t : Bool)
        → Fills (cond t (NewFilled Resource (flags_of x) x.stored.datum ∷ preload_steps references)
        (preload_steps references))
    by_bit fills true = fills
    by_bit fills false = fills

-- an opening, step by step as it is defined
abbrev Along : List Gone → List Step → Memory → Type 0
Along gone steps m = (gone ≡ gone_along steps m) × Fills steps

load-along : (loading : Bool) (references : List Reference) (m : Memory)
    → Along (load_gone loading references m) (cond loading (preload_steps references) []) m
load-along true references m = (preload-along references m, preload-fills references)
load-along false references m = (refl, tt)

map-along : (read : Result Map OsErr) (s : Managers) → Along (map_gone read s) (map_steps read s) s.memory
map-along (Err code) s = (refl, tt)
map-along (Ok read) s = load-along s.resources.loading read.references s.memory

fork-along : (fork : List ℕ) (s : Managers) → Along (fork_gone fork s) (fork_steps fork s) s.memory
fork-along fork s = by_number (nat_lt greatest_number s.resources.next)
  where
    by_number : (t : Bool) → Along (cond t [] (map_gone (map_in fork) s)) (cond t [] (map_steps (map_in fork) s)) s.memory
    by_number true = (refl, tt)
    by_number false = map-along (map_in fork) s

unless-along : (at : Split File) (o : Option (Split OpenFile)) (s : Managers)
    → Along (unless_open_gone at o s) (unless_steps at o s) s.memory
unless-along at (Some f) s = (refl, tt)
unless-along at None s = fork-along at.here.fork s

open-along : (o : Option (Split File)) (s : Managers) → Along (open_gone o s) (open_steps o s) s.memory
open-along None s = (refl, tt)
open-along (Some at) s = unless-along at (open_at (place at) s.resources) s

-- OpenResFile
pub opened-tells : (name : List ℕ) (s : Managers) → IsWhole s.memory.heap → (h : ℕ)
    → told_of h (gone_for (asks.OpenResFile name) s)
    ≡ cond (has_block h (served (asks.OpenResFile name) s).after.memory.heap) []
    (had h s.memory.heap (served (asks.OpenResFile name) s).reads)
opened-tells name s whole h =
    let a : ResourceAsked = asks.OpenResFile name in
    let steps : List Step = steps_of a s in
    let o = open-along (file_named name s.resources) s in
    ap (told_of h) o.0 ∙ path-tells steps s.memory o.1 whole h
    ∙ ap (λ (m : Memory). cond (has_block h m.heap) [] (had h s.memory.heap (reads steps s.memory)))
    (sym (heap-walks a s))
    ∙ ap (λ (read : Reads). cond (has_block h (served a s).after.memory.heap) [] (had h s.memory.heap read))
    (sym (reads-walk a s))

pub opened-goes : (name : List ℕ) (s : Managers) → IsWhole s.memory.heap
    → TellsWhatGoes (gone_for (asks.OpenResFile name) s) s.memory.heap
    (served (asks.OpenResFile name) s).after.memory.heap
opened-goes name s whole h within =
    opened-tells name s whole h
    ∙ ap (λ (t : Bool). cond (has_block h (served (asks.OpenResFile name) s).after.memory.heap) []
    (cond t (bytes_in h s.memory.heap.zone) (told_of h (served (asks.OpenResFile name) s).reads)))
    (let t : nat_lt h (length s.memory.heap.names) ≡ true = grind (arith, nat_tests, within) in t)

pub opened-loses : (name : List ℕ) (s : Managers) → IsWhole s.memory.heap
    → TellsWhatPreloadsLose (gone_for (asks.OpenResFile name) s) (served (asks.OpenResFile name) s).reads
    s.memory.heap (served (asks.OpenResFile name) s).after.memory.heap
opened-loses name s whole h high =
    opened-tells name s whole h
    ∙ ap (λ (t : Bool). cond (has_block h (served (asks.OpenResFile name) s).after.memory.heap) []
    (cond t (bytes_in h s.memory.heap.zone) (told_of h (served (asks.OpenResFile name) s).reads)))
    (let t : nat_lt h (length s.memory.heap.names) ≡ false = grind (arith, nat_tests, high) in t)

pub opened-once : (name : List ℕ) (s : Managers) → IsWhole s.memory.heap
    → TellsOnce (gone_for (asks.OpenResFile name) s)
opened-once name s whole h =
    few-told (told_of h (gone_for a s)) _ (opened-tells name s whole h)
    (by_test (has_block h (served a s).after.memory.heap) (nat_lt h (length s.memory.heap.names)))
  where
    a : ResourceAsked
    a = asks.OpenResFile name

    by_test : (t u : Bool) → length (cond t [] (cond u (bytes_in h s.memory.heap.zone) (told_of h (served a s).reads))) ≤ 1
    by_test true u = omega arith
    by_test false true = few-bytes h s.memory.heap false (whole.once h)
    by_test false false =
        let once = reads-once h (steps_of a s) s.memory (open-along (file_named name s.resources) s).1 in
        omega (arith, once, ap {B = ℕ} (λ (read : Reads). length (told_of h read)) (reads-walk a s))

pub opened-purgeable : (name : List ℕ) (s : Managers) → IsWhole s.memory.heap → (h : ℕ)
    → 0 < length (told_of h (gone_for (asks.OpenResFile name) s)) → h < length s.memory.heap.names
    → has_purgeable h s.memory.heap.zone ≡ true
opened-purgeable name s whole h some within =
    let a : ResourceAsked = asks.OpenResFile name in
    let w = went (told_of h (gone_for a s)) h s.memory.heap (served a s).after.memory.heap
    (opened-goes name s whole h within) some in
    steps-purgeable (steps_of a s) s.memory h (lets-walk h a s refl) w.0
    (subst (λ (m : Memory). has (is_relocatable h) m.heap.zone ≡ false) (heap-walks a s) w.1)
