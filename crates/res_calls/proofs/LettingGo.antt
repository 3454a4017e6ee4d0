use Rattle.res_calls.proofs.Cited.{◌≡◌, ◌<◌, ℕ, ◌+◌, Bool, true, false, Option, Some, None, refl, sym, subst, ◌∙◌, ap, List, [], ◌∷◌, ◌++◌}
use Rattle.res_calls.proofs.Cited.{map, length, drop, suc, zero, cond, arith, get_or, option_map, slice_get, option_to_list, remove}
use Rattle.res_calls.proofs.Cited.{cons_option, eqb-true, drop-map, State, Memory, inside, released, Split, split, place, replaced, removed}
use Rattle.res_calls.proofs.Cited.{Reference, content, fits, split-whole, split-passes, get-whole, found-place, remove-replaced, map-remove}
use Rattle.res_calls.proofs.Cited.{rest-map, OpenFile, Resources, view_file, view_open, Refusal, Code, HostMemory, at_index}
use Rattle.res_calls.proofs.Cited.{updated_reference, updated_map, updated, rewritten, update, IsUpdated, stored_in, Answer, done}
use Rattle.res_calls.proofs.Cited.{IsAnswered, managers, all_released, handles_of, first_number, closed, close_res_file, closed_file}
use Rattle.res_calls.proofs.Cited.{if_updated}
use Rattle.std.specs.Prelude.{◌==◌, Ok, Err}
use Rattle.res_calls.specs.declared.files.File.{File as StoredFile}
use Rattle.res_calls.specs.declared.files.OpenFile.{OpenFile as StoredOpenFile}
use Rattle.res_calls.proofs.Standing.{index_whole}
use Rattle.res_calls.proofs.WritingAnew.{found_stands, same_resources}

-- handles are let go one after the other
handles_from : (references : List Reference) (i : ℕ) (x : Reference) → slice_get references i ≡ Some x
    → handles_of (drop i references) ≡ cons_option x.handle (handles_of (drop (suc i) references))
handles_from [] i x e = cc
handles_from (y ∷ references) zero x e = let is : y ≡ x = cc in
    ap (λ (r : Reference). cons_option r.handle (handles_of references)) is
handles_from (y ∷ references) (suc i) x e = handles_from references i x e

released_cons : (h : Option ℕ) (handles : List ℕ) (m : Memory)
    → all_released handles (all_released (option_to_list h) m) ≡ all_released (cons_option h handles) m
released_cons None handles m = refl
released_cons (Some h) handles m = refl

pub released_next : (references : List Reference) (i : ℕ) (x : Reference) (h : Option ℕ) (m m' all : Memory)
    → slice_get references i ≡ Some x → h ≡ x.handle → m' ≡ all_released (option_to_list h) m
    → all_released (handles_of (drop i references)) m ≡ all
    → all_released (handles_of (drop (i + 1) references)) m' ≡ all
released_next references i x h m m' all here is then e =
    ap (λ k. all_released (handles_of (drop k references)) m') (let s : i + 1 ≡ suc i = omega arith in s)
    ∙ ap (all_released (handles_of (drop (suc i) references))) (then ∙ ap (λ o. all_released (option_to_list o) m) is)
    ∙ released_cons x.handle (handles_of (drop (suc i) references)) m
    ∙ ap (λ l. all_released l m) (sym (handles_from references i x here)) ∙ e

-- a heap lies where it lay, whatever handles are let go
pub lies-released : (handles : List ℕ) (m : Memory) → (all_released handles m).window ≡ m.window
lies-released [] m = refl
lies-released (h ∷ handles) m = lies-released handles (inside (released h) m)

pub released_lies : (references rest : List Reference) (m start : Memory)
    → all_released (handles_of rest) m ≡ all_released (handles_of references) start → m.window ≡ start.window
released_lies references rest m start e =
    sym (lies-released (handles_of rest) m) ∙ ap (λ (x : Memory). x.window) e
    ∙ lies-released (handles_of references) start

-- no reference is left
pub released_none : (references : List Reference) (n : ℕ) (m all : Memory) → n ≡ length references
    → all_released (handles_of (drop n references)) m ≡ all → m ≡ all
released_none references n m all whole e =
    ap (λ l. all_released (handles_of l) m) (sym (ap (λ k. drop k references) whole ∙ all_dropped references)) ∙ e
  where
    all_dropped : (xs : List Reference) → drop (length xs) xs ≡ []
    all_dropped [] = refl
    all_dropped (x ∷ xs) = all_dropped xs

-- the number of an open file in its place
pub number_seen : (xs : List StoredOpenFile) (i : ℕ) (x : StoredOpenFile) → i < length xs → x ≡ get_or xs i x
    → x.number ≡ first_number (map view_open (drop i xs))
number_seen xs i x inside is = sym (ap first_number (rest-map view_open xs i x inside is))

-- a list without the item of a split, and what stands behind it
drop-replaced : {A : Type 0} (before : List A) (x : A) (after : List A)
    → drop (suc (length before)) (before ++ x ∷ after) ≡ after
drop-replaced [] x after = refl
drop-replaced (b ∷ before) x after = drop-replaced before x after

-- a list around an item, without that item; what stands behind it
replaced-remove : {A : Type 0} (x : A) (s : Split A) → remove (replaced x s) (place s) ≡ removed s
replaced-remove x s = remove-replaced s.before x s.after

replaced-drop : {A : Type 0} (x : A) (s : Split A) → drop (place s + 1) (replaced x s) ≡ s.after
replaced-drop x s =
    ap (λ k. drop k (replaced x s)) (let n : place s + 1 ≡ suc (place s) = omega arith in n)
    ∙ drop-replaced s.before x s.after

-- an update leaves the handles of references
pub updated-handles : (heap : State) (references : List Reference)
    → handles_of (map (updated_reference heap) references) ≡ handles_of references
updated-handles heap [] = refl
updated-handles heap (x ∷ references) = ap (cons_option x.handle) (updated-handles heap references)

-- an open file that was updated stands in its place, with its handles
record Stays (s : Split OpenFile) (r : Resources) : Type 0 where
  file : OpenFile
  chain : r.chain ≡ replaced file s
  handles : handles_of file.map.references ≡ handles_of s.here.map.references

update-stays : (heap : State) (r after : Resources) (s : Split OpenFile) → replaced s.here s ≡ r.chain
    → update heap s r ≡ Some after → Stays s after
update-stays heap r after s whole e = cases s.here.touched (fits (content (updated_map heap s.here.map))) e
  where
    cases : (on fitting : Bool) → cond on (cond fitting (Some (rewritten heap s r)) None) (Some r) ≡ Some after
        → Stays s after
    cases false fitting e =
        let is : r ≡ after = cc in
        subst (λ (q : Resources). Stays s q) is (record { file = s.here; chain = sym whole; handles = refl })
    cases true true e =
        let is : rewritten heap s r ≡ after = cc in
        subst (λ (q : Resources). Stays s q) is (record {
          file = updated heap s.here;
          chain = refl;
          handles = updated-handles heap s.here.map.references;
        })
    cases true false e = cc

-- a file that is closed
closed_at : (n : ℕ) (q r : Resources) (m : Memory) (s : Split OpenFile)
    → split (λ f. f.number == n) q.chain ≡ Some s → (n == 0) ≡ false → update m.heap s q ≡ Some r
    → close_res_file n (managers q m)
    ≡ done tt (managers (closed s r) (all_released (handles_of s.here.map.references) m))
closed_at n q r m s found some is = rw (found, some, is) refl

-- the chain without it, and the number that is current then
closed_chain : (n older : ℕ) (r : Resources) (chain : List OpenFile) (s : Split OpenFile)
    → s.here.number ≡ n → older ≡ first_number s.after → chain ≡ removed s
    → (let q : Resources = record r { chain = chain; current = cond (r.current == n) older r.current } in q) ≡ closed s r
closed_chain n older r chain s number next left = rw (left, next, ← number) refl

-- r: the resources after the update
closed_so : (n i older : ℕ) (q r : Resources) (chain : List OpenFile) (x : OpenFile) (m after : Memory)
    → Some i ≡ option_map place (split (λ (f : OpenFile). f.number == n) q.chain) → (n == 0) ≡ false
    → ((s : Split OpenFile) → at_index i q.chain ≡ Some s → update m.heap s q ≡ Some r)
    → slice_get r.chain i ≡ Some x → older ≡ first_number (drop (i + 1) r.chain) → chain ≡ remove r.chain i
    → after ≡ all_released (handles_of x.map.references) m
    → IsAnswered (λ (u : Unit {0}). u) (close_res_file n (managers q m)) (Ok tt)
    (managers (record r { chain = chain; current = cond (r.current == n) older r.current }) after)
closed_so n i older q r chain x m after found some each here first without released =
    let test : OpenFile → Bool = λ f. f.number == n in
    let at = found-place (split test q.chain) i found in
    let s = at.0 in
    let whole = split-whole test q.chain s at.1.0 in
    let update_so = each s (ap (λ k. at_index k q.chain) at.1.1 ∙ index_whole q.chain s whole) in
    let stays = update-stays m.heap q r s whole update_so in
    let number : s.here.number ≡ n = eqb-true s.here.number n (split-passes test q.chain s at.1.0) in
    let same : Some stays.file ≡ Some x =
    sym (get-whole (replaced stays.file s) (record s { here = stays.file }) refl)
    ∙ ap (λ l. slice_get l (place s)) (sym stays.chain) ∙ ap (slice_get r.chain) (sym at.1.1) ∙ here in
    let is : stays.file ≡ x = cc in
    let left : chain ≡ removed s =
    without ∙ ap (remove r.chain) at.1.1 ∙ ap (λ l. remove l (place s)) stays.chain ∙ replaced-remove stays.file s in
    let next : older ≡ first_number s.after =
    first ∙ ap (λ k. first_number (drop (k + 1) r.chain)) at.1.1
    ∙ ap (λ l. first_number (drop (place s + 1) l)) stays.chain ∙ ap first_number (replaced-drop stays.file s) in
    let let_go : all_released (handles_of s.here.map.references) m ≡ after =
    ap (λ l. all_released l m) (sym stays.handles)
    ∙ ap (λ (f : OpenFile). all_released (handles_of f.map.references) m) is ∙ sym released in
    let done_so = closed_at n q r m s at.1.0 some update_so in (
      ap (λ (a : Answer (Unit {0})). a.reply) done_so,
      ap (λ (a : Answer (Unit {0})). a.after) done_so
          ∙ ap (λ (p : Resources). managers p (all_released (handles_of s.here.map.references) m))
          (sym (closed_chain n older r chain s number next left)) ∙ ap (managers _) let_go,
    )

pub closed_seen : (n i older : ℕ) (q : Resources) (files files' : List StoredFile) (xs ys zs : List StoredOpenFile)
    (x : OpenFile) (m after : Memory)
    → Some i ≡ option_map place (split (λ (f : OpenFile). f.number == n) (map view_open xs)) → (n == 0) ≡ false
    → ((r : Resources) (s : Split OpenFile) → at_index i (map view_open xs) ≡ Some s
    → update m.heap s (stored_in files xs r) ≡ Some (stored_in files' ys r))
    → slice_get (map view_open ys) i ≡ Some x → older ≡ first_number (map view_open (drop (i + 1) ys))
    → zs ≡ remove ys i → after ≡ all_released (handles_of x.map.references) m
    → IsAnswered (λ (u : Unit {0}). u) (close_res_file n (managers (stored_in files xs q) m)) (Ok tt)
    (managers (record (stored_in files' zs q) { current = cond (q.current == n) older q.current }) after)
closed_seen n i older q files files' xs ys zs x m after found some each here first without released =
    closed_so n i older (stored_in files xs q) (stored_in files' ys q) (map view_open zs) x m after found some
    (λ s at. each q s at) here
    (first ∙ ap first_number (sym (drop-map view_open (i + 1) ys)))
    (ap (map view_open) without ∙ map-remove view_open ys i) released

-- a file that isn't closed, since its content doesn't fit
refused_so : (o : Option Resources) (answer : Resources → Answer (Unit {0})) (q r : Resources) (m : Memory)
    (refusal : Refusal) → IsUpdated {T = Unit {0}} o (Err refusal) r → r ≡ q
    → IsAnswered (λ (u : Unit {0}). u) (if_updated o (managers q m) answer) (Err refusal) (managers r m)
refused_so o answer q r m HostMemory is same = tt
refused_so o answer q r m (Code code) is same =
    rw (is.1, is.0) (refl, ap (λ (p : Resources). managers p m) (sym same))

refused_at : (n : ℕ) (q : Resources) (m : Memory) (s : Split OpenFile)
    → split (λ f. f.number == n) q.chain ≡ Some s → (n == 0) ≡ false
    → close_res_file n (managers q m)
    ≡ if_updated (update m.heap s q) (managers q m) (λ r. done tt (closed_file s r (managers q m)))
refused_at n q m s found some = rw (found, some) refl

pub close_refused : (n i : ℕ) (q : Resources) (files files' : List StoredFile) (xs ys : List StoredOpenFile)
    (m : Memory) (refusal : Refusal)
    → Some i ≡ option_map place (split (λ (f : OpenFile). f.number == n) (map view_open xs)) → (n == 0) ≡ false
    → ((r : Resources) (s : Split OpenFile) → at_index i (map view_open xs) ≡ Some s
    → IsUpdated {T = Unit {0}} (update m.heap s (stored_in files xs r)) (Err refusal) (stored_in files' ys r))
    → map view_file files' ≡ map view_file files → map view_open ys ≡ map view_open xs
    → IsAnswered (λ (u : Unit {0}). u) (close_res_file n (managers (stored_in files xs q) m)) (Err refusal)
    (managers (stored_in files' ys q) m)
close_refused n i q files files' xs ys m refusal found some each one two =
    let at = found_stands (λ (f : OpenFile). f.number == n) i (map view_open xs) found in
    let q0 = stored_in files xs q in
    subst (λ (a : Answer (Unit {0})). IsAnswered (λ (u : Unit {0}). u) a (Err refusal) (managers (stored_in files' ys q) m))
    (sym (refused_at n q0 m at.0 at.1.0 some))
    (refused_so (update m.heap at.0 q0) (λ r. done tt (closed_file at.0 r (managers q0 m))) q0 (stored_in files' ys q) m
    refusal (each q at.0 at.1.1) (same_resources files files' xs ys q one two))
