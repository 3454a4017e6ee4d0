use Rattle.res_calls.proofs.Cited.{◌≡◌, ℕ, ◌<◌, Bool, true, List, [], ◌∷◌, ◌++◌, length, map, Option, Some, None, refl, sym, ◌∙◌, ap}
use Rattle.res_calls.proofs.Cited.{get_or, suc, zero, subst, option_map, is_some, slice_get, slice_set, remove, length-map}
use Rattle.res_calls.proofs.Cited.{slice_get_within, slice_get-get_or, slice_get-map, Split, split, behind, replaced, removed, place}
use Rattle.res_calls.proofs.Cited.{Reference, Map, is_of, split_nth, get-whole, set-whole, remove-whole, found-place, found-none}
use Rattle.res_calls.proofs.Cited.{split-whole, split_nth-whole, reference_in, nth_in, view_open, OpenFile, Found, at_index, in_file}
use Rattle.res_calls.proofs.Cited.{found_at, Spot}
use Rattle.std.proofs.Common.{IfSome}
use Rattle.res_calls.specs.declared.files.OpenFile.{OpenFile as StoredOpenFile}
use Rattle.res_calls.proofs.Lookups.{found_seen}

-- What stands in a place.

-- what an index gives
pub record Stands (A : Type 0) (n : ℕ) (xs : List A) (s : Split A) : Type 0 where
  pub whole : replaced s.here s ≡ xs
  pub placed : place s ≡ n

pub index_stands : {A : Type 0} (n : ℕ) (xs : List A) (s : Split A) → at_index n xs ≡ Some s → Stands A n xs s
index_stands n [] s e = cc
index_stands {A = A} zero (x ∷ xs) s e =
    let is : (let t : Split A = record { before = []; here = x; after = xs } in t) ≡ s = cc in
    subst (λ (t : Split A). Stands A zero (x ∷ xs) t) is (record { whole = refl; placed = refl })
index_stands {A = A} (suc n) (x ∷ xs) s e = cases (at_index n xs) (index_stands n xs) e
  where
    cases : (o : Option (Split A)) → ((t : Split A) → o ≡ Some t → Stands A n xs t) → option_map (behind x) o ≡ Some s
        → Stands A (suc n) (x ∷ xs) s
    cases None again is = cc
    cases (Some t) again is =
        let same : behind x t ≡ s = cc in
        let inner = again t refl in
        subst (λ (u : Split A). Stands A (suc n) (x ∷ xs) u) same
        (record { whole = ap (λ l. x ∷ l) inner.whole; placed = ap suc inner.placed })

pub stands_get : {A : Type 0} (n : ℕ) (xs : List A) (s : Split A) → Stands A n xs s → slice_get xs n ≡ Some s.here
stands_get n xs s stands = ap (slice_get xs) (sym stands.placed) ∙ get-whole xs s stands.whole

pub stands_set : {A : Type 0} (n : ℕ) (xs : List A) (s : Split A) (y : A) → Stands A n xs s → slice_set xs n y
    ≡ replaced y s
stands_set n xs s y stands = ap (λ k. slice_set xs k y) (sym stands.placed) ∙ set-whole xs y s stands.whole

stands_removed : {A : Type 0} (n : ℕ) (xs : List A) (s : Split A) → Stands A n xs s → remove xs n ≡ removed s
stands_removed n xs s stands = ap (remove xs) (sym stands.placed) ∙ remove-whole xs s stands.whole

-- a file and a reference of it, as a place gives them
pub record Seen (at : Spot) (chain : List OpenFile) (f : Found) : Type 0 where
  pub file : Stands OpenFile at.file chain f.file
  pub reference : Stands Reference at.reference f.file.here.map.references f.reference

pub place_seen : (at : Spot) (chain : List OpenFile) (f : Found) → found_at at chain ≡ Some f → Seen at chain f
place_seen at chain f e = cases (at_index at.file chain) (index_stands at.file chain) e
  where
    inner : (s : Split OpenFile) → Stands OpenFile at.file chain s → (o : Option (Split Reference))
        → ((t : Split Reference) → o ≡ Some t → Stands Reference at.reference s.here.map.references t)
        → option_map (λ t. (let g : Found = record { file = s; reference = t } in g)) o ≡ Some f → Seen at chain f
    inner s stands None again is = cc
    inner s stands (Some t) again is =
        let same : (let g : Found = record { file = s; reference = t } in g) ≡ f = cc in
        subst (λ (g : Found). Seen at chain g) same (record { file = stands; reference = again t refl })

    cases : (o : Option (Split OpenFile)) → ((s : Split OpenFile) → o ≡ Some s → Stands OpenFile at.file chain s)
        → in_file at.reference o ≡ Some f → Seen at chain f
    cases None stands is = cc
    cases (Some s) stands is = inner s (stands s refl) (at_index at.reference s.here.map.references)
        (index_stands at.reference s.here.map.references) is

-- there is something
pub some_of : {A : Type 0} (o : Option A) → is_some o ≡ true → (x : A) × (o ≡ Some x)
some_of None e = cc
some_of (Some x) e = (x, refl)

-- the open files as they are kept
file_get : {X : Type 0} (view : X → OpenFile) (xs : List X) (i : ℕ) (x : X) → i < length xs → x ≡ get_or xs i x
    → slice_get (map view xs) i ≡ Some (view x)
file_get view xs i x inside is =
    slice_get-map view xs i ∙ ap (option_map view) (slice_get-get_or xs i x inside) ∙ ap (λ y. Some (view y)) (sym is)

pub inside_files : {X : Type 0} (view : X → OpenFile) (xs : List X) (at : Spot)
    → is_some (found_at at (map view xs)) ≡ true → at.file < length xs
inside_files view xs at e =
    let f = some_of (found_at at (map view xs)) e in
    let seen = place_seen at (map view xs) f.0 f.1 in
    subst (λ n. at.file < n) (length-map xs view)
    (slice_get_within (map view xs) at.file f.0.file.here (stands_get at.file (map view xs) f.0.file seen.file))

-- the file of the place
the_file : {X : Type 0} (view : X → OpenFile) (xs : List X) (at : Spot) (x : X) (f : Found)
    → found_at at (map view xs) ≡ Some f → x ≡ get_or xs at.file x → f.file.here ≡ view x
the_file view xs at x f e is =
    let inside = inside_files view xs at (ap is_some e) in
    let seen = place_seen at (map view xs) f e in
    let same : Some f.file.here ≡ Some (view x) =
    sym (stands_get at.file (map view xs) f.file seen.file) ∙ file_get view xs at.file x inside is in cc

pub inside_map : {X : Type 0} (view : X → OpenFile) (xs : List X) (at : Spot) (x : X) → x ≡ get_or xs at.file x
    → is_some (found_at at (map view xs)) ≡ true → at.reference < length (view x).map.references
inside_map view xs at x is e =
    let f = some_of (found_at at (map view xs)) e in
    let seen = place_seen at (map view xs) f.0 f.1 in
    subst (λ (g : OpenFile). at.reference < length g.map.references) (the_file view xs at x f.0 f.1 is)
    (slice_get_within f.0.file.here.map.references at.reference f.0.reference.here
    (stands_get at.reference f.0.file.here.map.references f.0.reference seen.reference))

-- what holds of the reference at a place holds of it in the map of its file
pub inside_some : {X : Type 0} (P : Reference → Type 0) (view : X → OpenFile) (xs : List X) (at : Spot) (x : X)
    → x ≡ get_or xs at.file x → is_some (found_at at (map view xs)) ≡ true
    → IfSome (found_at at (map view xs)) (λ (f : Found). P f.reference.here)
    → IfSome (slice_get (view x).map.references at.reference) P
inside_some P view xs at x is e holds =
    let f = some_of (found_at at (map view xs)) e in
    let seen = place_seen at (map view xs) f.0 f.1 in
    let here : P f.0.reference.here =
    subst (λ (o : Option Found). IfSome o (λ (f : Found). P f.reference.here)) f.1 holds in
    let there = stands_get at.reference f.0.file.here.map.references f.0.reference seen.reference in
    subst (λ (g : OpenFile). IfSome (slice_get g.map.references at.reference) P) (the_file view xs at x f.0 f.1 is)
    (subst (λ (o : Option Reference). IfSome o P) (sym there) here)

pub entry_here : {X : Type 0} (view : X → OpenFile) (xs : List X) (at : Spot) (x : X) (r : Reference)
    → x ≡ get_or xs at.file x → is_some (found_at at (map view xs)) ≡ true
    → slice_get (view x).map.references at.reference ≡ Some r
    → option_map (λ (f : Found). f.reference.here) (found_at at (map view xs)) ≡ Some r
entry_here view xs at x r is e there =
    let f = some_of (found_at at (map view xs)) e in
    let seen = place_seen at (map view xs) f.0 f.1 in
    ap (option_map (λ (f : Found). f.reference.here)) f.1
    ∙ sym (stands_get at.reference f.0.file.here.map.references f.0.reference seen.reference)
    ∙ ap (λ (g : OpenFile). slice_get g.map.references at.reference) (the_file view xs at x f.0 f.1 is) ∙ there

pub number_here : {X : Type 0} (view : X → OpenFile) (xs : List X) (at : Spot) (x : X) (n : ℕ)
    → x ≡ get_or xs at.file x → is_some (found_at at (map view xs)) ≡ true → (view x).number ≡ n
    → option_map (λ (f : Found). f.file.here.number) (found_at at (map view xs)) ≡ Some n
number_here view xs at x n is e there =
    let f = some_of (found_at at (map view xs)) e in
    ap (option_map (λ (f : Found). f.file.here.number)) f.1
    ∙ ap (λ (g : OpenFile). Some g.number) (the_file view xs at x f.0 f.1 is) ∙ ap Some there

-- a file with another map; touched with it
abbrev pub mapped : Map → OpenFile → OpenFile
mapped m f = record f { map = m }

abbrev pub touched_as : Map → OpenFile → OpenFile
touched_as m f = record f { map = m; touched = true }

-- a map with other references
abbrev pub listed : List Reference → Map → Map
listed references m = record m { references = references }

-- the open files where one is another one, as they are kept
pub map_set : {X : Type 0} (view : X → OpenFile) (xs : List X) (i : ℕ) (y : X)
    → map view (slice_set xs i y) ≡ slice_set (map view xs) i (view y)
map_set view [] i y = refl
map_set view (x ∷ xs) zero y = refl
map_set view (x ∷ xs) (suc i) y = ap (λ l. view x ∷ l) (map_set view xs i y)

-- the open files where one of them is changed at a reference of it
changed_file : {X : Type 0} (view : X → OpenFile) (xs : List X) (at : Spot) (x y : X)
    (change : Split Reference → OpenFile → OpenFile) → x ≡ get_or xs at.file x
    → is_some (found_at at (map view xs)) ≡ true
    → ((s : Split Reference) → Stands Reference at.reference (view x).map.references s → view y ≡ change s (view x))
    → option_map (λ (f : Found). replaced (change f.reference f.file.here) f.file) (found_at at (map view xs))
    ≡ Some (map view (slice_set xs at.file y))
changed_file view xs at x y change is e each =
    let f = some_of (found_at at (map view xs)) e in
    let seen = place_seen at (map view xs) f.0 f.1 in
    let file : f.0.file.here ≡ view x = the_file view xs at x f.0 f.1 is in
    let here : change f.0.reference f.0.file.here ≡ view y =
    ap (change f.0.reference) file ∙ sym (each f.0.reference
    (subst (λ (g : OpenFile). Stands Reference at.reference g.map.references f.0.reference) file seen.reference)) in
    ap (option_map (λ (f : Found). replaced (change f.reference f.file.here) f.file)) f.1
    ∙ ap (λ (g : OpenFile). Some (replaced g f.0.file)) here
    ∙ ap Some (sym (stands_set at.file (map view xs) f.0.file (view y) seen.file) ∙ sym (map_set view xs at.file y))

-- the open files where the reference in a place is another one, by the map of its file
pub reference_put : {X : Type 0} (view : X → OpenFile) (xs : List X) (at : Spot) (x y : X)
    (put : Map → OpenFile → OpenFile) (change : Reference → Reference) (new : Map) → x ≡ get_or xs at.file x
    → is_some (found_at at (map view xs)) ≡ true
    → IfSome (slice_get (view x).map.references at.reference)
    (λ r. new ≡ listed (slice_set (view x).map.references at.reference (change r)) (view x).map)
    → view y ≡ put new (view x)
    → option_map (λ (f : Found). replaced
    (put (listed (replaced (change f.reference.here) f.reference) f.file.here.map) f.file.here) f.file)
    (found_at at (map view xs))
    ≡ Some (map view (slice_set xs at.file y))
reference_put view xs at x y put change new is e set seen_so =
    changed_file view xs at x y
    (λ s g. put (listed (replaced (change s.here) s) g.map) g) is e (λ s stands.
    let so : new ≡ listed (slice_set (view x).map.references at.reference (change s.here)) (view x).map =
    subst (λ (o : Option Reference). IfSome o (λ r. new
    ≡ listed (slice_set (view x).map.references at.reference (change r)) (view x).map))
    (stands_get at.reference (view x).map.references s stands) set in
    seen_so ∙ ap (λ (m : Map). put m (view x)) (so ∙ ap (λ l. listed l (view x).map)
    (stands_set at.reference (view x).map.references s (change s.here) stands)))

-- the open files without the reference in a place
pub reference_removed : {X : Type 0} (view : X → OpenFile) (xs : List X) (at : Spot) (x y : X)
    (put : Map → OpenFile → OpenFile) (new : Map) → x ≡ get_or xs at.file x
    → is_some (found_at at (map view xs)) ≡ true
    → new ≡ listed (remove (view x).map.references at.reference) (view x).map
    → view y ≡ put new (view x)
    → option_map (λ (f : Found). replaced
    (put (listed (removed f.reference) f.file.here.map) f.file.here) f.file) (found_at at (map view xs))
    ≡ Some (map view (slice_set xs at.file y))
reference_removed view xs at x y put new is e without seen_so =
    changed_file view xs at x y (λ s g. put (listed (removed s) g.map) g) is e (λ s stands.
    seen_so ∙ ap (λ (m : Map). put m (view x)) (without ∙ ap (λ l. listed l (view x).map)
    (stands_removed at.reference (view x).map.references s stands)))

-- a list around an item gives it by its index
index_replaced : {A : Type 0} (before : List A) (x : A) (after : List A)
    → at_index (length before) (before ++ x ∷ after)
    ≡ Some (let s : Split A = record { before = before; here = x; after = after } in s)
index_replaced [] x after = refl
index_replaced (b ∷ before) x after = ap (option_map (behind b)) (index_replaced before x after)

pub index_whole : {A : Type 0} (xs : List A) (s : Split A) → replaced s.here s ≡ xs → at_index (place s) xs ≡ Some s
index_whole xs s whole = ap (at_index (place s)) (sym whole) ∙ index_replaced s.before s.here s.after

-- the n-th reference of a type in an open file
pub nth_found : (test : OpenFile → Bool) (kind n : ℕ) (xs : List StoredOpenFile) (i k : ℕ) (x : StoredOpenFile)
    → i < length xs → x ≡ get_or xs i x → Some i ≡ option_map place (split test (map view_open xs))
    → Some k ≡ option_map place (split_nth n (is_of kind) x.map.references)
    → found_at (let s : Spot = record { file = i; reference = k } in s) (map view_open xs)
    ≡ nth_in kind n (split test (map view_open xs))
nth_found test kind n xs i k x inside is found nth =
    let chain = map view_open xs in
    let f = found_seen view_open test xs i x inside is found in
    let refs : f.0.here.map.references ≡ x.map.references = ap (λ (g : OpenFile). g.map.references) f.1.1.1 in
    let s = found-place (split_nth n (is_of kind) x.map.references) k nth in
    let there : at_index k x.map.references ≡ split_nth n (is_of kind) x.map.references =
    ap (λ j. at_index j x.map.references) s.1.1
    ∙ index_whole x.map.references s.0 (split_nth-whole n (is_of kind) x.map.references s.0 s.1.0) ∙ sym s.1.0 in
    ap (in_file k) (ap (λ j. at_index j chain) f.1.1.0 ∙ index_whole chain f.0 (split-whole test chain f.0 f.1.0))
    ∙ ap (option_map (reference_in f.0)) (ap (at_index k) refs ∙ there ∙ ap (split_nth n (is_of kind)) (sym refs))
    ∙ ap (nth_in kind n) (sym f.1.0)

pub nth_none : (test : OpenFile → Bool) (kind n : ℕ) (xs : List StoredOpenFile) (i : ℕ) (x : StoredOpenFile)
    → i < length xs → x ≡ get_or xs i x → Some i ≡ option_map place (split test (map view_open xs))
    → None ≡ option_map place (split_nth n (is_of kind) x.map.references)
    → None ≡ nth_in kind n (split test (map view_open xs))
nth_none test kind n xs i x inside is found nth =
    let f = found_seen view_open test xs i x inside is found in
    let refs : x.map.references ≡ f.0.here.map.references = ap (λ (g : OpenFile). g.map.references) (sym f.1.1.1) in
    ap (option_map (reference_in f.0)) (sym (found-none (split_nth n (is_of kind) x.map.references) nth)
    ∙ ap (split_nth n (is_of kind)) refs)
    ∙ ap (nth_in kind n) (sym f.1.0)

pub nth_closed : (test : OpenFile → Bool) (kind n : ℕ) (xs : List StoredOpenFile)
    → None ≡ option_map place (split test (map view_open xs)) → None ≡ nth_in kind n (split test (map view_open xs))
nth_closed test kind n xs closed = ap (nth_in kind n) (sym (found-none (split test (map view_open xs)) closed))

-- there is one where its place was found
pub nth_placed : (test : OpenFile → Bool) (kind n : ℕ) (xs : List StoredOpenFile) (i k : ℕ) (x : StoredOpenFile)
    → i < length xs → x ≡ get_or xs i x → Some i ≡ option_map place (split test (map view_open xs))
    → Some k ≡ option_map place (split_nth n (is_of kind) x.map.references)
    → is_some (found_at (let s : Spot = record { file = i; reference = k } in s) (map view_open xs)) ≡ true
nth_placed test kind n xs i k x inside is found nth =
    let f = found_seen view_open test xs i x inside is found in
    let refs : f.0.here.map.references ≡ x.map.references = ap (λ (g : OpenFile). g.map.references) f.1.1.1 in
    let s = found-place (split_nth n (is_of kind) x.map.references) k nth in
    ap is_some (nth_found test kind n xs i k x inside is found nth ∙ ap (nth_in kind n) f.1.0
    ∙ ap (option_map (reference_in f.0)) (ap (split_nth n (is_of kind)) refs ∙ s.1.0))
