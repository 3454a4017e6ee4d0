-- Each block of a preload that a later one purges is that of a resource whose block may be purged.
use Rattle.res_calls.proofs.Cited.{◌≡◌, inl, inr, ℕ, ◌+◌, ◌≤◌, ◌<◌, ◌==◌, Bool, true, false, ◌&&◌, ◌||◌, List, [], ◌∷◌, ◌++◌, length, refl}
use Rattle.res_calls.proofs.Cited.{sym, ◌∙◌, ap, subst, cond, arith, nat_lt, Option, Some, None, Result, Ok, Err, Decides-eqb, nat_tests}
use Rattle.res_calls.proofs.Cited.{list_any-append, list_any, OsErr, Block, Relocatable, count, is_relocatable, is_purgeable, count-none}
use Rattle.res_calls.proofs.Cited.{has-count, Memory, Resource, has_purgeable, has_block, new_filled, new_inside, handle_gone, Way, Made}
use Rattle.res_calls.proofs.Cited.{way, Step, NewFilled, stepped, gone_at, read_new, walk, reads, told_of, bytes_in, steps-purgeable}
use Rattle.res_calls.proofs.Cited.{PROFILE, Gone, Split, place, Reference, Map, has_handle, is_preload, with_handle, OpenResFile, served}
use Rattle.res_calls.proofs.Cited.{Managers, Answer, refused, flags_of, given, preload, File, OpenFile, opened, file_named, open_at}
use Rattle.res_calls.proofs.Cited.{preload_gone, load_gone, map_gone, fork_gone, unless_open_gone, open_gone, gone_for, references}
use Rattle.res_calls.proofs.Cited.{loaded_if, open_as, open_map, open_fork, open_unless, open_named, greatest_number, map_in, IsWhole}
use Rattle.res_calls.proofs.Cited.{may_go, TellsOfLoosePreloads}
use Rattle.res_calls.proofs.ToldGone.Calls.{went, preload-along, preload-fills}
use Rattle.res_calls.proofs.ToldGone.Filled.{told-append, step-beyond, whole-filled, ungiven}
use Rattle.res_calls.proofs.ToldGone.Paths.{path-tells}
use Rattle.res_calls.proofs.Walks.Letting.{preload-lets}
use Rattle.res_calls.proofs.Walks.Steps.{preload_steps}
use Rattle.res_calls.proofs.Walks.Going.{given-memory}

-- a resource whose handle is this one, and whose block may be purged
abbrev pub is_loose : ℕ → Reference → Bool
is_loose h x = has_handle h x && may_go x

-- the block of a handle that was just made may be purged only where it was filled so
own-loose : (x : Reference) (m : Memory) → IsWhole m.heap
    → Made (flags_of x) m.heap x.stored.datum (new_filled Resource (flags_of x) x.stored.datum m.heap)
    → has_purgeable (length m.heap.names)
    (stepped (NewFilled Resource (flags_of x) x.stored.datum) m).heap.zone ≡ true → may_go x ≡ true
own-loose x m whole made loose = by_flags (may_go x) refl
  where
    n : ℕ
    n = length m.heap.names

    test : Block → Bool
    test b = is_relocatable n b && is_purgeable b

    fewer : (zone : List Block) → count test zone ≤ count (is_relocatable n) zone
    fewer [] = omega arith
    fewer (b ∷ zone) = let r = fewer zone in omega (arith, one (is_relocatable n b) (is_purgeable b))
      where
        one : (t u : Bool) → cond {A = ℕ} (t && u) 1 0 ≤ cond {A = ℕ} t 1 0
        one true true = omega arith
        one true false = omega arith
        one false u = omega arith

    by_flags : (t : Bool) → may_go x ≡ t → t ≡ true
    by_flags true e = refl
    by_flags false e = absurd (
        let l = made.most (λ b. cond (test b) 1 0) ((λ k. refl), refl) in
        let z = count-none (is_relocatable n) m.heap.zone (ungiven n m.heap whole (omega arith)) in
        let f = fewer m.heap.zone in
        let c = has-count test (stepped (NewFilled Resource (flags_of x) x.stored.datum) m).heap.zone loose in
        let new : cond {A = ℕ} (test (Relocatable n (flags_of x) x.stored.datum)) 1 0 ≡ cond {A = ℕ} ((n == n) && false) 1 0
        = ap {B = ℕ} (λ (t : Bool). cond {A = ℕ} ((n == n) && t) 1 0) e in
        omega (arith, new, none (n == n)))
      where
        none : (t : Bool) → cond {A = ℕ} (t && false) 1 0 ≡ 0
        none true = refl
        none false = refl

-- one of the references, and of those after it
later-any : (test : Reference → Bool) (xs ys : List Reference) → list_any test ys ≡ true → list_any test (xs ++ ys) ≡ true
later-any test xs ys e = list_any-append test xs ys ∙ ap (λ (t : Bool). list_any test xs || t) e ∙ or-true (list_any test xs)
  where
    or-true : (t : Bool) → (t || true) ≡ true
    or-true true = refl
    or-true false = refl

first-any : (test : Reference → Bool) (x : Reference) (ys : List Reference) → test x ≡ true
    → list_any test (x ∷ ys) ≡ true
first-any test x ys e = ap (λ (t : Bool). t || list_any test ys) e

abbrev pub Loose : ℕ → List Reference → Memory → Type 0
Loose h references m = 0 < length (told_of h (preload_gone references m)) → length m.heap.names ≤ h
    → list_any (is_loose h) (preload references m).references ≡ true

-- a block that was there before a preloading, and is not there after it
preload-old : (references : List Reference) (m : Memory) → IsWhole m.heap → (h : ℕ) → h < length m.heap.names
    → 0 < length (told_of h (preload_gone references m)) → has_purgeable h m.heap.zone ≡ true
preload-old references m whole h within some =
    let steps : List Step = preload_steps references in
    let tells = ap (told_of h) (preload-along references m)
    ∙ path-tells steps m (preload-fills references) whole h
    ∙ ap (λ (t : Bool). cond (has_block h (walk steps m).heap) [] (cond t (bytes_in h m.heap.zone)
    (told_of h (reads steps m)))) (let t : nat_lt h (length m.heap.names) ≡ true = grind (arith, nat_tests, within) in t) in
    let w = went (told_of h (preload_gone references m)) h m.heap (walk steps m).heap tells some in
    steps-purgeable steps m h (preload-lets references h) w.0 w.1

abbrev first_read : ℕ → List (ℕ × List ℕ) → ℕ
first_read none [] = none
first_read none (read ∷ reads) = read.0

module _ (x : Reference) (references : List Reference) (m : Memory) (whole : IsWhole m.heap) (h : ℕ)
    (high : length m.heap.names ≤ h)
  where
    abbrev step : Step
    step = NewFilled Resource (flags_of x) x.stored.datum

    abbrev new : Result ℕ OsErr × Memory
    new = new_inside Resource (flags_of x) x.stored.datum m

    -- by what a new handle made of the heap, and by its number
    made-loose : (y : Result ℕ OsErr × Memory) → new ≡ y → Loose h references new.1
        → 0 < length (told_of h (preload_gone references new.1))
        → Made (flags_of x) m.heap x.stored.datum (new_filled Resource (flags_of x) x.stored.datum m.heap)
        → (t : Bool) → (length m.heap.names == h) ≡ t
        → list_any (is_loose h) ((given x y).references ++ (preload references new.1).references) ≡ true
    made-loose y is later some made false e =
        let more : length m.heap.names < h = grind (arith, nat_tests, e, high) in
        later-any (is_loose h) (given x y).references (preload references new.1).references
        (later some (omega (arith, made.names)))
    made-loose (Err code, after) is later some made true e = absurd (
        let none : [] ≡ (length m.heap.names, x.stored.datum) ∷ [] =
        ap (λ (y : Result ℕ OsErr × Memory). read_new x.stored.datum y.0) (sym is) ∙ made.read in
        let far : length m.heap.names + 1 ≡ length m.heap.names =
        ap (first_read (length m.heap.names + 1)) none in omega arith)
    made-loose (Ok k, after) is later some made true e =
        let same : length m.heap.names ≡ h = (Decides-eqb (length m.heap.names) h).0 e in
        let own : k ≡ length m.heap.names = ap (first_read 0)
        (ap (λ (y : Result ℕ OsErr × Memory). read_new x.stored.datum y.0) (sym is) ∙ made.read) in
        let whole1 = whole-filled Resource (flags_of x) x.stored.datum m whole (inr made) in
        let purgeable = preload-old references new.1 whole1 h (omega (arith, made.names)) some in
        let may = own-loose x m whole made (subst (λ (j : ℕ). has_purgeable j new.1.heap.zone ≡ true) (sym same) purgeable) in
        first-any (is_loose h) (with_handle (Some k) x) (preload references new.1).references
        (ap (λ (t : Bool). t && may_go x) ((Decides-eqb k h).1 (own ∙ same)) ∙ may)

    next-loose : Loose h references new.1
        → 0 < length (told_of h (gone_at step m ++ preload_gone references new.1))
        → list_any (is_loose h) ((given x new).references ++ (preload references new.1).references) ≡ true
    next-loose later some = by_way (way Resource (flags_of x) x.stored.datum m.heap)
      where
        told : 0 < length (told_of h (preload_gone references new.1))
        told =
            let z : length (told_of h (gone_at step m ++ preload_gone references new.1))
            ≡ length (told_of h (preload_gone references new.1)) =
            ap {B = ℕ} (λ (l : List (List ℕ)). length l)
            (told-append h (gone_at step m) (preload_gone references new.1)
            ∙ ap (λ (l : List (List ℕ)). l ++ told_of h (preload_gone references new.1)) (step-beyond step m h high)) in
            omega arith

        by_way : Way (flags_of x) m.heap x.stored.datum (new_filled Resource (flags_of x) x.stored.datum m.heap)
            → list_any (is_loose h) ((given x new).references ++ (preload references new.1).references) ≡ true
        by_way (inl w) = later-any (is_loose h) (given x new).references (preload references new.1).references
            (later told (omega (arith, w.names)))
        by_way (inr made) = made-loose new refl later told made (length m.heap.names == h) refl

pub preload-loose : (references : List Reference) (m : Memory) → IsWhole m.heap → (h : ℕ) → Loose h references m
preload-loose [] m whole h = λ some high. absurd (omega arith)
preload-loose (x ∷ references) m whole h = by_bit (is_preload x)
    (λ high some. next-loose x references m whole h high (preload-loose references new.1
    (whole-filled Resource (flags_of x) x.stored.datum m whole (way Resource (flags_of x) x.stored.datum m.heap)) h) some)
    (preload-loose references m whole h)
  where
    new : Result ℕ OsErr × Memory
    new = new_inside Resource (flags_of x) x.stored.datum m

    by_bit : (t : Bool)
        → (length m.heap.names ≤ h
        → 0 < length (told_of h (handle_gone true x m ++ preload_gone references new.1))
        → list_any (is_loose h) ((given x new).references ++ (preload references new.1).references) ≡ true)
        → Loose h references m
        → 0 < length (told_of h (cond t (handle_gone true x m) []
        ++ preload_gone references (cond t (given x new)
        (record { references = x ∷ []; memory = m; reads = [] })).memory))
        → length m.heap.names ≤ h
        → list_any (is_loose h) ((cond t (given x new)
        (record { references = x ∷ []; memory = m; reads = [] })).references
        ++ (preload references (cond t (given x new)
        (record { references = x ∷ []; memory = m; reads = [] })).memory).references) ≡ true
    by_bit true made plain some high =
        subst (λ (k : Memory). list_any (is_loose h) ((given x new).references ++ (preload references k).references)
        ≡ true) (sym (given-memory x new))
        (made high (subst (λ (k : Memory). 0 < length (told_of h (handle_gone true x m
        ++ preload_gone references k))) (given-memory x new) some))
    by_bit false made plain some high = later-any (is_loose h) (x ∷ []) (preload references m).references (plain some high)

-- so it is of a file that is opened, step by step as it is defined
abbrev OpensLoose : {T : Type 0} → List Gone → Managers → Answer T → Type 0
OpensLoose gone s a = (h : ℕ) → 0 < length (told_of h gone) → length s.memory.heap.names ≤ h
    → list_any (is_loose h) (references a.after.resources.chain) ≡ true

none-loose : {T : Type 0} (s : Managers) (a : Answer T) → OpensLoose [] s a
none-loose s a h some high = absurd (omega arith)

front-any : (test : Reference → Bool) (xs ys : List Reference) → list_any test xs ≡ true → list_any test (xs ++ ys) ≡ true
front-any test xs ys e = list_any-append test xs ys ∙ ap (λ (t : Bool). t || list_any test ys) e

open-loose : (f : OpenFile) (s : Managers) → IsWhole s.memory.heap
    → OpensLoose (load_gone s.resources.loading f.map.references s.memory) s (open_as f s)
open-loose f s whole h = by_loading s.resources.loading
  where
    by_loading : (t : Bool) → 0 < length (told_of h (load_gone t f.map.references s.memory))
        → length s.memory.heap.names ≤ h
        → list_any (is_loose h) ((loaded_if t f.map.references s.memory).references ++ references s.resources.chain) ≡ true
    by_loading true some high = front-any (is_loose h) (preload f.map.references s.memory).references
        (references s.resources.chain) (preload-loose f.map.references s.memory whole h some high)
    by_loading false some high = absurd (omega arith)

map-loose : (i : ℕ) (read : Result Map OsErr) (s : Managers) → IsWhole s.memory.heap
    → OpensLoose (map_gone read s) s (open_map i read s)
map-loose i (Err code) s whole = none-loose s (open_map i (Err code) s)
map-loose i (Ok read) s whole = open-loose (opened s.resources.next (Some i) read) s whole

fork-loose : (i : ℕ) (fork : List ℕ) (s : Managers) → IsWhole s.memory.heap
    → OpensLoose (fork_gone fork s) s (open_fork i fork s)
fork-loose i fork s whole = by_number (nat_lt greatest_number s.resources.next)
  where
    by_number : (t : Bool) → OpensLoose (cond t [] (map_gone (map_in fork) s)) s
        (cond t (refused PROFILE s) (open_map i (map_in fork) s))
    by_number true = none-loose s (refused {T = ℕ} PROFILE s)
    by_number false = map-loose i (map_in fork) s whole

unless-loose : (at : Split File) (o : Option (Split OpenFile)) (s : Managers) → IsWhole s.memory.heap
    → OpensLoose (unless_open_gone at o s) s (open_unless at o s)
unless-loose at (Some f) s whole = none-loose s (open_unless at (Some f) s)
unless-loose at None s whole = fork-loose (place at) at.here.fork s whole

named-loose : (o : Option (Split File)) (s : Managers) → IsWhole s.memory.heap → OpensLoose (open_gone o s) s (open_named o s)
named-loose None s whole = none-loose s (open_named None s)
named-loose (Some at) s whole = unless-loose at (open_at (place at) s.resources) s whole

pub opened-loose : (name : List ℕ) (s : Managers) → IsWhole s.memory.heap
    → TellsOfLoosePreloads (gone_for (OpenResFile name) s) s.memory.heap (served (OpenResFile name) s).after.resources
opened-loose name s whole h some high = named-loose (file_named name s.resources) s whole h some high
