use Rattle.res_calls.proofs.Cited.{◌≡◌, ◌<◌, ◌≤◌, ℕ, ◌+◌, zero, suc, Bool, true, false, Option, Some, None, refl, sym, ◌∙◌, ap, subst, List}
use Rattle.res_calls.proofs.Cited.{[], ◌∷◌, ◌++◌, map, length, drop, arith, get_or, append_assoc, map-append, append-nil, Vec, Global}
use Rattle.res_calls.proofs.Cited.{view_bytes, view_all, option_map, slice_get, slice_set, IsErr, OnOk, Content, Spells, canon, fits, clear}
use Rattle.res_calls.proofs.Cited.{State, Memory, Reference, Map, all_anew, content, length-map, slice_get-get_or, ne_eqb, Refusal, Code}
use Rattle.res_calls.proofs.Cited.{HostMemory, Split, replaced, split, place, found-place, split-whole, Anew, File, OpenFile, Resources}
use Rattle.res_calls.proofs.Cited.{file_of, done, IsAnswered, managers, update_res_file, if_updated, with_resources, at_index, fresh}
use Rattle.res_calls.proofs.Cited.{updated_reference, updated_map, updated, written, written_at, fork_of, rewritten, update, IsWritten}
use Rattle.res_calls.proofs.Cited.{IsFork, IsAnew, IsUpdated, stored_in, view_file, view_open}
use Rattle.std.specs.Prelude.{IsTrue, ◌≢◌}
use Rattle.std.specs.Prelude.{Result, Ok, Err, ◌==◌, ◌-◌}
use Rattle.res_calls.specs.declared.files.File.{File as StoredFile}
use Rattle.res_calls.specs.declared.files.OpenFile.{OpenFile as StoredOpenFile}
use Rattle.res_calls.proofs.Lookups.{item_seen}
use Rattle.res_calls.proofs.Standing.{index_stands, index_whole, stands_get, stands_set, map_set}

-- The fork of an open file is written anew.

-- the references, each with what is fresh of it, are the updated ones
pub all_fresh : (heap : State) (references : List Reference)
    → all_anew (map (fresh heap) references) references ≡ map (updated_reference heap) references
all_fresh heap [] = refl
all_fresh heap (r ∷ references) = ap (λ l. updated_reference heap r ∷ l) (all_fresh heap references)

-- what is fresh of references, one after the other
map_from : {A B : Type 0} (f : A → B) (xs : List A) (i : ℕ) (x : A) → slice_get xs i ≡ Some x
    → map f (drop i xs) ≡ f x ∷ map f (drop (suc i) xs)
map_from f [] i x e = cc
map_from f (y ∷ xs) zero x e = let is : y ≡ x = cc in ap (λ z. f z ∷ map f xs) is
map_from f (y ∷ xs) (suc i) x e = map_from f xs i x e

pub fresh_next : (heap : State) (references : List Reference) (i : ℕ) (x : Reference)
    (front front' : List (Option (Vec ℕ Global))) (o : Option (Vec ℕ Global)) (all : List (Option (List ℕ)))
    → slice_get references i ≡ Some x → view_bytes o ≡ fresh heap x → front' ≡ front ++ o ∷ []
    → view_all front ++ map (fresh heap) (drop i references) ≡ all
    → view_all front' ++ map (fresh heap) (drop (i + 1) references) ≡ all
fresh_next heap references i x front front' o all here seen pushed e =
    let rest = map (fresh heap) (drop (suc i) references) in
    ap (λ k. view_all front' ++ map (fresh heap) (drop k references)) (let s : i + 1 ≡ suc i = omega arith in s)
    ∙ ap (λ l. view_all l ++ rest) pushed
    ∙ ap (λ l. l ++ rest) (map-append view_bytes front (o ∷ []))
    ∙ append_assoc (view_all front) (view_bytes o ∷ []) rest
    ∙ ap (λ b. view_all front ++ b ∷ rest) seen
    ∙ ap (λ l. view_all front ++ l) (sym (map_from (fresh heap) references i x here)) ∙ e

-- a fork that is written
true_so : (b : Bool) → IsTrue b → b ≡ true
true_so true h = refl
true_so false h = cc

pub is_written : (c c' : Content) (bytes : List ℕ) → c' ≡ c → bytes ≡ canon c' → Spells bytes (clear c')
    → IsTrue (fits c') → IsWritten c bytes
is_written c c' bytes same is again fitting =
    subst (λ (d : Content). IsWritten d bytes) same
    (record { fork = is; read_again = again; fits = true_so (fits c') fitting })

-- what is written of a map with what is fresh of it
abbrev pub anew_map : List (Option (Vec ℕ Global)) → Map → Map
anew_map stored m = record m { references = all_anew (view_all stored) m.references }

anew_so : (heap : State) (m : Map) (stored : List (Option (Vec ℕ Global)))
    → view_all stored ≡ map (fresh heap) m.references → anew_map stored m ≡ updated_map heap m
anew_so heap m stored is =
    ap (λ (l : List Reference). (let n : Map = record m { references = l } in n))
    (ap (λ l. all_anew l m.references) is ∙ all_fresh heap m.references)

pub anew_written : (heap : State) (m : Map) (given stored : List (Option (Vec ℕ Global))) (fork : Vec ℕ Global)
    → given ≡ stored → view_all stored ≡ map (fresh heap) m.references → IsFork (content (anew_map given m)) (Ok fork)
    → IsWritten (content (updated_map heap m)) fork.items
anew_written heap m given stored fork same is wrote =
    subst (λ (n : Map). IsWritten (content n) fork.items) (anew_so heap m given (ap view_all same ∙ is)) wrote

pub anew_refused : (heap : State) (m : Map) (given stored : List (Option (Vec ℕ Global))) (refusal : Refusal)
    → given ≡ stored → view_all stored ≡ map (fresh heap) m.references
    → IsFork (content (anew_map given m)) (Err refusal) → IsAnew heap m (Err refusal)
anew_refused heap m given stored HostMemory same is wrote = tt
anew_refused heap m given stored (Code code) same is wrote =
    (wrote.0, ap (λ (n : Map). fits (content n)) (sym (anew_so heap m given (ap view_all same ∙ is))) ∙ wrote.1)

-- a file behind the first one
pub written_cons : (i : ℕ) (fork : List ℕ) (f : File) (files : List File)
    → written (suc i) fork (f ∷ files) ≡ f ∷ written i fork files
written_cons i fork f files =
    let more : (suc i == 0) ≡ false = ne_eqb (suc i) 0 (λ e. (let none : ⊥ = omega (arith, e) in none)) in
    let less : suc i - 1 ≡ i = omega arith in
    rw (more, less) refl

-- files with another fork in one place
pub written_here : {X : Type 0} (view : X → File) (fork : List ℕ) (xs : List X) (i : ℕ) (d y : X) → i < length xs
    → d ≡ get_or xs i d → view y ≡ record (view d) { fork = fork; written = true }
    → map view (slice_set xs i y) ≡ written i fork (map view xs)
written_here view fork [] i d y inside is put = absurd (let no : ⊥ = omega arith in no)
written_here view fork (x ∷ xs) zero d y inside is put =
    ap (λ f. f ∷ map view xs)
    (put ∙ ap (λ z. (let f : File = record (view z) { fork = fork; written = true } in f)) is)
written_here view fork (x ∷ xs) (suc i) d y inside is put =
    ap (λ l. view x ∷ l) (written_here view fork xs i d y (omega arith) is put)
    ∙ sym (written_cons i fork (view x) (map view xs))

pub written_past : (fork : List ℕ) (files : List File) (i : ℕ) → length files ≤ i → written i fork files ≡ files
written_past fork [] i past = refl
written_past fork (f ∷ files) zero past = absurd (let no : ⊥ = omega arith in no)
written_past fork (f ∷ files) (suc i) past =
    written_cons i fork f files ∙ ap (λ l. f ∷ l) (written_past fork files i (omega arith))

-- a fork that is put into a place, if there is such a place
pub fork_put : (fork : List ℕ) (xs : List StoredFile) (place : Option ℕ) (i : ℕ) (x y : StoredFile)
    → place ≡ Some i → i < length xs → x ≡ get_or xs i x
    → view_file y ≡ record (view_file x) { fork = fork; written = true }
    → map view_file (slice_set xs i y) ≡ written_at place fork (map view_file xs)
fork_put fork xs place i x y there inside is put =
    written_here view_file fork xs i x y inside is put
    ∙ ap (λ (o : Option ℕ). written_at o fork (map view_file xs)) (sym there)

pub fork_past : (fork : List ℕ) (xs : List StoredFile) (place : Option ℕ) (i : ℕ)
    → place ≡ Some i → length xs ≤ i → map view_file xs ≡ written_at place fork (map view_file xs)
fork_past fork xs place i there past =
    let long : length (map view_file xs) ≡ length xs = length-map xs view_file in
    sym (written_past fork (map view_file xs) i (omega (arith, past, long)))
    ∙ ap (λ (o : Option ℕ). written_at o fork (map view_file xs)) (sym there)

-- as many as there are references
pub all_long : (heap : State) (stored : List (Option (Vec ℕ Global))) (references : List Reference)
    → view_all stored ≡ map (fresh heap) references → length stored ≡ length references
all_long heap stored references e =
    sym (length-map stored view_bytes) ∙ ap length e ∙ length-map references (fresh heap)

-- the item of an index, as it is seen
pub here_seen : {X A : Type 0} (view : X → A) (xs : List X) (i : ℕ) (x : X) (s : Split A) → i < length xs
    → x ≡ get_or xs i x → at_index i (map view xs) ≡ Some s → s.here ≡ view x
here_seen view xs i x s inside is at =
    let same : Some s.here ≡ Some (view x) =
    sym (stands_get i (map view xs) s (index_stands i (map view xs) s at)) ∙ item_seen view xs i x inside is in cc

-- an update of a file that isn't touched, of one that doesn't fit, and of one that does
stays : (heap : State) (r : Resources) (s : Split OpenFile) → s.here.touched ≡ false → update heap s r ≡ Some r
stays heap r s off = rw off refl

fails : (heap : State) (r : Resources) (s : Split OpenFile) → s.here.touched ≡ true
    → fits (content (updated_map heap s.here.map)) ≡ false → update heap s r ≡ None
fails heap r s on large = rw (on, large) refl

does : (heap : State) (r : Resources) (s : Split OpenFile) → s.here.touched ≡ true
    → fits (content (updated_map heap s.here.map)) ≡ true → update heap s r ≡ Some (rewritten heap s r)
does heap r s on fitting = rw (on, fitting) refl

-- what is read of an open file by its index
read_so : {T : Type 0} (field : OpenFile → T) (xs : List StoredOpenFile) (i : ℕ) (x : StoredOpenFile) (value : T)
    → i < length xs → x ≡ get_or xs i x → field (view_open x) ≡ value → (s : Split OpenFile)
    → at_index i (map view_open xs) ≡ Some s → field s.here ≡ value
read_so field xs i x value inside is e s at = ap field (here_seen view_open xs i x s inside is at) ∙ e

pub update_untouched : (heap : State) (files : List StoredFile) (xs : List StoredOpenFile) (i : ℕ) (x : StoredOpenFile)
    → i < length xs → x ≡ get_or xs i x → x.touched ≡ false → (r : Resources) (s : Split OpenFile)
    → at_index i (map view_open xs) ≡ Some s → update heap s (stored_in files xs r) ≡ Some (stored_in files xs r)
update_untouched heap files xs i x inside is off r s at =
    stays heap (stored_in files xs r) s (read_so (λ f. f.touched) xs i x false inside is off s at)

pub untouched_reads : (heap : State) (xs : List StoredOpenFile) (i : ℕ) (x : StoredOpenFile)
    → i < length xs → x ≡ get_or xs i x → x.touched ≡ false → (s : Split OpenFile)
    → at_index i (map view_open xs) ≡ Some s → s.here.touched ≡ true
    → Spells (fork_of heap s.here) (clear (content (updated_map heap s.here.map)))
untouched_reads heap xs i x inside is off s at on =
    let never : true ≡ false = sym on ∙ read_so (λ f. f.touched) xs i x false inside is off s at in cc

-- what an update is to write, of a file that is read a second time
anew_here : (heap : State) (xs : List StoredOpenFile) (i : ℕ) (y : StoredOpenFile) (result : Result Anew Refusal)
    → i < length xs → y ≡ get_or xs i y → IsAnew heap y.map result → (s : Split OpenFile)
    → at_index i (map view_open xs) ≡ Some s → IsAnew heap s.here.map result
anew_here heap xs i y result inside is anew s at =
    subst (λ (f : OpenFile). IsAnew heap f.map result) (sym (here_seen view_open xs i y s inside is at)) anew

refused_so : (T : Type 0) (heap : State) (r : Resources) (s : Split OpenFile) (refusal : Refusal)
    → s.here.touched ≡ true → IsAnew heap s.here.map (Err refusal)
    → IsUpdated {T = T} (update heap s r) (Err refusal) r
refused_so T heap r s HostMemory on anew = tt
refused_so T heap r s (Code code) on anew = (anew.0, fails heap r s on anew.1)

pub update_refused : (T : Type 0) (heap : State) (files : List StoredFile) (xs : List StoredOpenFile) (i : ℕ)
    (x y : StoredOpenFile) (refusal : Refusal) → i < length xs → x ≡ get_or xs i x → y ≡ get_or xs i y → x.touched ≡ true
    → IsAnew heap y.map (Err refusal) → (r : Resources) (s : Split OpenFile) → at_index i (map view_open xs) ≡ Some s
    → IsUpdated {T = T} (update heap s (stored_in files xs r)) (Err refusal) (stored_in files xs r)
update_refused T heap files xs i x y refusal inside is also on anew r s at =
    refused_so T heap (stored_in files xs r) s refusal (read_so (λ f. f.touched) xs i x true inside is on s at)
    (anew_here heap xs i y (Err refusal) inside also anew s at)

pub reads_again : (heap : State) (xs : List StoredOpenFile) (i : ℕ) (y : StoredOpenFile) (anew : Anew)
    → i < length xs → y ≡ get_or xs i y → IsAnew heap y.map (Ok anew) → (s : Split OpenFile)
    → at_index i (map view_open xs) ≡ Some s → s.here.touched ≡ true
    → Spells (fork_of heap s.here) (clear (content (updated_map heap s.here.map)))
reads_again heap xs i y anew inside is made s at on =
    let fork = (anew_here heap xs i y (Ok anew) inside is made s at).1 in
    subst (λ l. Spells l (clear (content (updated_map heap s.here.map)))) fork.fork fork.read_again

-- as many as there are references in the file that is written
pub long_enough : (heap : State) (xs : List StoredOpenFile) (i : ℕ) (y z : StoredOpenFile) (anew : Anew)
    → i < length xs → y ≡ get_or xs i y → z ≡ get_or xs i z → IsAnew heap y.map (Ok anew)
    → length anew.stored.items ≡ length z.map.references
long_enough heap xs i y z anew inside is also made =
    let same : Some y ≡ Some z = ap Some is ∙ sym (slice_get-get_or xs i y inside) ∙ slice_get-get_or xs i z inside
    ∙ ap Some (sym also) in
    let one : y ≡ z = cc in
    all_long heap anew.stored.items y.map.references made.0 ∙ ap (λ (f : StoredOpenFile). length f.map.references) one

-- an open file with another map, touched no more; resources with other files and open files
abbrev untouched : Map → OpenFile → OpenFile
untouched m f = record f { map = m; touched = false }

abbrev filled : List File → List OpenFile → Resources → Resources
filled files chain r = record r { files = files; chain = chain }

pub update_done : (heap : State) (files files' : List StoredFile) (xs : List StoredOpenFile) (i : ℕ)
    (x y z out : StoredOpenFile) (anew : Anew) → i < length xs → x ≡ get_or xs i x → y ≡ get_or xs i y
    → z ≡ get_or xs i z → x.touched ≡ true → IsAnew heap y.map (Ok anew)
    → map view_file files' ≡ written_at z.file anew.fork.items (map view_file files)
    → view_open out ≡ record (view_open z) { map = anew_map anew.stored.items z.map; touched = false }
    → (r : Resources) (s : Split OpenFile) → at_index i (map view_open xs) ≡ Some s
    → update heap s (stored_in files xs r) ≡ Some (stored_in files' (slice_set xs i out) r)
update_done heap files files' xs i x y z out anew inside is also too on made wrote put r s at =
    let here : s.here ≡ view_open z = here_seen view_open xs i z s inside too at in
    let it = anew_here heap xs i y (Ok anew) inside also made s at in
    let files_so : written_at s.here.file (fork_of heap s.here) (map view_file files) ≡ map view_file files' =
    ap (λ l. written_at s.here.file l (map view_file files)) (sym it.1.fork)
    ∙ ap (λ (f : OpenFile). written_at f.file anew.fork.items (map view_file files)) here ∙ sym wrote in
    let out_so : updated heap s.here ≡ view_open out =
    ap (λ (m : Map). untouched m s.here)
    (sym (anew_so heap s.here.map anew.stored.items it.0))
    ∙ ap (λ (f : OpenFile). untouched (anew_map anew.stored.items f.map) f) here
    ∙ sym put in
    let chain_so : replaced (updated heap s.here) s ≡ map view_open (slice_set xs i out) =
    ap (λ (f : OpenFile). replaced f s) out_so
    ∙ sym (stands_set i (map view_open xs) s (view_open out) (index_stands i (map view_open xs) s at))
    ∙ sym (map_set view_open xs i out) in
    does heap (stored_in files xs r) s (read_so (λ f. f.touched) xs i x true inside is on s at) it.1.fits
    ∙ ap (λ l. Some (filled l (replaced (updated heap s.here) s) r)) files_so
    ∙ ap (λ l. Some (filled (map view_file files') l r)) chain_so

-- an item that was found, and the index of its place
pub found_stands : {A : Type 0} (test : A → Bool) (i : ℕ) (xs : List A) → Some i ≡ option_map place (split test xs)
    → (s : Split A) × ((split test xs ≡ Some s) × (at_index i xs ≡ Some s))
found_stands test i xs found =
    let at = found-place (split test xs) i found in (
      at.0,
      (at.1.0, ap (λ k. at_index k xs) at.1.1 ∙ index_whole xs at.0 (split-whole test xs at.0 at.1.0)),
    )

-- what UpdateResFile answers
update_of : (n : ℕ) (q : Resources) (m : Memory) (s : Split OpenFile)
    → split (λ (f : OpenFile). f.number == n) q.chain ≡ Some s → (n == 0) ≡ false → update_res_file n (managers q m)
    ≡ if_updated (update m.heap s q) (managers q m) (λ r. done tt (with_resources r (managers q m)))
update_of n q m s found some = rw (found, some) refl

-- what is given where an update was done or refused
updated_as : (o : Option Resources) (q r : Resources) (m : Memory) (result : Result (Unit {0}) Refusal)
    → IsUpdated o result r → (IsErr result → r ≡ q)
    → IsAnswered (λ (u : Unit {0}). u)
    (if_updated o (managers q m) (λ (p : Resources). done tt (with_resources p (managers q m)))) result (managers r m)
updated_as o q r m (Ok u) is same = rw is (refl, refl)
updated_as o q r m (Err HostMemory) is same = tt
updated_as o q r m (Err (Code code)) is same =
    rw (is.1, is.0) (refl, ap (λ (p : Resources). managers p m) (sym (same refl)))

-- the resources are as they were
pub same_resources : (files files' : List StoredFile) (xs ys : List StoredOpenFile) (r : Resources)
    → map view_file files' ≡ map view_file files → map view_open ys ≡ map view_open xs
    → stored_in files' ys r ≡ stored_in files xs r
same_resources files files' xs ys r one two = rw (one, two) refl

pub updated_open : (n i : ℕ) (r : Resources) (m : Memory) (files files' : List StoredFile)
    (xs ys : List StoredOpenFile) (result : Result (Unit {0}) Refusal)
    → Some i ≡ option_map place (split (λ (f : OpenFile). f.number == n) (map view_open xs)) → (n == 0) ≡ false
    → ((r : Resources) (s : Split OpenFile) → at_index i (map view_open xs) ≡ Some s
    → IsUpdated (update m.heap s (stored_in files xs r)) result (stored_in files' ys r))
    → (IsErr result → map view_file files' ≡ map view_file files)
    → (IsErr result → map view_open ys ≡ map view_open xs)
    → IsAnswered (λ (u : Unit {0}). u) (update_res_file n (managers (stored_in files xs r) m)) result
    (managers (stored_in files' ys r) m)
updated_open n i r m files files' xs ys result found some each one two =
    let at = found_stands (λ (f : OpenFile). f.number == n) i (map view_open xs) found in
    rw (update_of n (stored_in files xs r) m at.0 at.1.0 some)
    (updated_as (update m.heap at.0 (stored_in files xs r)) (stored_in files xs r) (stored_in files' ys r) m result
    (each r at.0 at.1.1) (λ e. same_resources files files' xs ys r (one e) (two e)))

-- what was written of an open file that was found by its number is read again
pub reads_open : (n i : ℕ) (r : Resources) (heap : State) (xs : List StoredOpenFile)
    (result : Result (Unit {0}) Refusal) → map view_open xs ≡ r.chain
    → Some i ≡ option_map place (split (λ (f : OpenFile). f.number == n) (map view_open xs))
    → OnOk result ((s : Split OpenFile) → at_index i (map view_open xs) ≡ Some s → s.here.touched ≡ true
    → Spells (fork_of heap s.here) (clear (content (updated_map heap s.here.map))))
    → OnOk result ((s : Split OpenFile) → n ≢ 0 → file_of n r ≡ Some s → s.here.touched ≡ true
    → Spells (fork_of heap s.here) (clear (content (updated_map heap s.here.map))))
reads_open n i r heap xs (Err refusal) is found each = tt
reads_open n i r heap xs (Ok u) is found each = λ s some named on.
    let at = found_stands (λ (f : OpenFile). f.number == n) i (map view_open xs) found in
    let same : Some at.0 ≡ Some s = sym at.1.0
    ∙ ap (split (λ (f : OpenFile). f.number == n)) is ∙ named in
    let one : at.0 ≡ s = cc in
    each s (at.1.1 ∙ ap Some one) on
