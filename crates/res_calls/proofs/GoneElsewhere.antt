-- What a call purges does not depend on where its heap lies.
use Rattle.res_calls.proofs.Cited.{◌≡◌, ℕ, ℤ, Bool, true, false, cond, List, [], ◌∷◌, ◌++◌, Option, Some, None, Result, Ok, Err, refl, ap}
use Rattle.res_calls.proofs.Cited.{◌∙◌, OsErr, Site, Memory, elsewhere, Split, place, Reference, Map, is_named, is_resource, ResourceAsked}
use Rattle.res_calls.proofs.Cited.{Managers, Loaded, preload_one, File, OpenFile, Found, file_named, find_from_current, find_in_current}
use Rattle.res_calls.proofs.Cited.{open_at, fetch_gone_as, fetch_gone, preload_gone, load_gone, map_gone, fork_gone, unless_open_gone}
use Rattle.res_calls.proofs.Cited.{open_gone, gone_for, own_gone, preload_one_gone, find_own, greatest_number, map_in, nth_among}
use Rattle.res_calls.proofs.Cited.{resource_of}
use Rattle.std.specs.Prelude.{nat_lt}
use Rattle.res_calls.specs.Asked as asks
use Rattle.res_calls.proofs.Walks.Place.{moved, one-place}

-- a fetch
again-elsewhere : (window : Site) (loading : Bool) (at : Found) (o : Option ℕ) (s : Managers)
    → fetch_gone_as loading at o (moved window s) ≡ fetch_gone_as loading at o s
again-elsewhere window loading at None s = refl
again-elsewhere window loading at (Some h) s = refl

pub fetch-elsewhere : (window : Site) (loading : Bool) (found : Option Found) (s : Managers)
    → fetch_gone loading found (moved window s) ≡ fetch_gone loading found s
fetch-elsewhere window loading None s = refl
fetch-elsewhere window loading (Some at) s = again-elsewhere window loading at at.reference.here.handle s

-- a preloading
preload-elsewhere : (window : Site) (references : List Reference) (m : Memory)
    → preload_gone references (elsewhere window m) ≡ preload_gone references m
preload-elsewhere window [] m = refl
preload-elsewhere window (x ∷ references) m =
    ap (λ (l : Loaded). preload_one_gone x m ++ preload_gone references l.memory) (one-place window x m)
    ∙ ap (λ l. preload_one_gone x m ++ l) (preload-elsewhere window references (preload_one x m).memory)

load-elsewhere : (window : Site) (loading : Bool) (references : List Reference) (m : Memory)
    → load_gone loading references (elsewhere window m) ≡ load_gone loading references m
load-elsewhere window true references m = preload-elsewhere window references m
load-elsewhere window false references m = refl

map-elsewhere : (window : Site) (read : Result Map OsErr) (s : Managers)
    → map_gone read (moved window s) ≡ map_gone read s
map-elsewhere window (Err code) s = refl
map-elsewhere window (Ok read) s = load-elsewhere window s.resources.loading read.references s.memory

fork-elsewhere : (window : Site) (fork : List ℕ) (s : Managers) → fork_gone fork (moved window s) ≡ fork_gone fork s
fork-elsewhere window fork s =
    ap (λ l. cond (nat_lt greatest_number s.resources.next) [] l) (map-elsewhere window (map_in fork) s)

unless-elsewhere : (window : Site) (at : Split File) (o : Option (Split OpenFile)) (s : Managers)
    → unless_open_gone at o (moved window s) ≡ unless_open_gone at o s
unless-elsewhere window at None s = fork-elsewhere window at.here.fork s
unless-elsewhere window at (Some f) s = refl

open-elsewhere : (window : Site) (o : Option (Split File)) (s : Managers)
    → open_gone o (moved window s) ≡ open_gone o s
open-elsewhere window None s = refl
open-elsewhere window (Some at) s = unless-elsewhere window at (open_at (place at) s.resources) s

-- each call
pub gone-elsewhere : (window : Site) (a : ResourceAsked) (s : Managers) → gone_for a (moved window s) ≡ gone_for a s
gone-elsewhere window (asks.OpenResFile name) s = open-elsewhere window (file_named name s.resources) s
gone-elsewhere window (asks.GetResource kind id) s =
    fetch-elsewhere window s.resources.loading (find_from_current (is_resource kind id) s.resources) s
gone-elsewhere window (asks.Get1Resource kind id) s =
    fetch-elsewhere window s.resources.loading (find_in_current (is_resource kind id) s.resources) s
gone-elsewhere window (asks.GetNamedResource kind name) s =
    fetch-elsewhere window s.resources.loading (find_from_current (is_named kind name) s.resources) s
gone-elsewhere window (asks.Get1NamedResource kind name) s =
    fetch-elsewhere window s.resources.loading (find_in_current (is_named kind name) s.resources) s
gone-elsewhere window (asks.GetIndResource among kind index) s =
    fetch-elsewhere window s.resources.loading (nth_among among kind index s.resources) s
gone-elsewhere window (asks.LoadResource handle) s = fetch-elsewhere window true (resource_of handle s.resources) s
gone-elsewhere window a s = refl

pub own-elsewhere : (window : Site) (kind : ℕ) (id : ℤ) (s : Managers)
    → own_gone kind id (moved window s) ≡ own_gone kind id s
own-elsewhere window kind id s = fetch-elsewhere window true (find_own kind id s.resources) s
