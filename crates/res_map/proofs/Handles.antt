use Rattle.res_map.proofs.Cited.{◌≡◌, ◌∙◌, refl, sym, ap, ℕ, ℤ, suc, ◌+◌, ◌<◌, ◌≤◌, ◌/◌, arith, Bool, true, false, cond, ◌&&◌, List, []}
use Rattle.res_map.proofs.Cited.{◌∷◌, ◌++◌, length, Option, Some, None, IfSome, get_or, map, subst, int_eq, length-set, w32, option_map}
use Rattle.res_map.proofs.Cited.{slice_get, slice_set, ◌==◌, cast_unsigned, remove, of_z-to_z, Decides-int_eq, Decides-eqb, map-set}
use Rattle.res_map.proofs.Cited.{set-set, length-remove, sum_by-cons, slice_get_within, slice_get-get_or, slice_get-map, and_parts, Ref}
use Rattle.res_map.proofs.Cited.{Group, view_reference, StoredReference, Row, Reference, Map, has_handle, is_handle, all_anew, stored_anew}
use Rattle.res_map.proofs.Cited.{with_handle, read_reference, of_groups, IsEach, IsEachAnd, IsHolding, IsIndex, IsRising, IsToldAs, IsRowOf}
use Rattle.res_map.proofs.Cited.{IsAt, is_own, place_in, first_place, handle_row, held_row, held_weights, is_held, lowered, moved}
use Rattle.res_map.proofs.Cited.{row_weights, sooner, weight}
use Rattle.std.proofs.Common.{◌%◌}
use Rattle.res_map.proofs.Places.{first-cons, first-set, one_on, replaced_at}
use Rattle.res_map.proofs.Rows.{key-of, index-alike, index-anew, index-found, index-gone, index-left, read-back, rising-moved}
use Rattle.res_map.proofs.Weights.{fewer-rows, held-removed, held-set, held-zero, one, weights-moved}
use Rattle.res_map.proofs.Splitting.{get-inside}

-- The index by handle.

-- the row by handle of a reference is its own, at any place
pub row-held : (place : ℕ) (r : Reference) → IsRowOf is_held (held_row place r.handle) r
row-held place r k i = cases r.handle
  where
    cases : (o : Option ℕ) → is_own (held_row 0 o) k i ≡ is_own (held_row place o) k i
    cases None = refl
    cases (Some h) = refl

pub held-place : (place : ℕ) (handle : Option ℕ) → IfSome (held_row place handle) (λ r. r.place ≡ place)
held-place place None = tt
held-place place (Some h) = refl

-- a row by handle that is given its place
pub held-placed : (at : ℕ) (r : Reference) (row placed : Option Row) → row ≡ held_row 0 r.handle
    → placed ≡ option_map (moved (λ p. at)) row → IsRowOf is_held placed r
held-placed at r row placed is moved-to k i =
    row-held at r k i
    ∙ ap (λ o. is_own o k i) (sym (moved-to ∙ ap (option_map (moved (λ p. at))) is ∙ other r.handle))
  where
    other : (o : Option ℕ) → option_map (moved (λ p. at)) (held_row 0 o) ≡ held_row at o
    other None = refl
    other (Some h) = refl

-- a handle is found by its halves
abbrev halves : ℕ → ℕ → Bool
halves g h = (handle_row 0 g).kind == (handle_row 0 h).kind && int_eq (handle_row 0 g).key (handle_row 0 h).key

one-number : (g h : ℕ) → halves g h ≡ true → g ≡ h
one-number g h e =
    let two = and_parts ((handle_row 0 g).kind == (handle_row 0 h).kind) (int_eq (handle_row 0 g).key (handle_row 0 h).key) e in
    let upper : g / 4294967296 ≡ h / 4294967296 = (Decides-eqb (g / 4294967296) (h / 4294967296)).0 two.0 in
    let keys = (Decides-int_eq (handle_row 0 g).key (handle_row 0 h).key).0 two.1 in
    let lower : g % 4294967296 ≡ h % 4294967296 =
    sym (of_z-to_z w32 (g % 4294967296) (omega arith)) ∙ ap (cast_unsigned w32) keys
    ∙ of_z-to_z w32 (h % 4294967296) (omega arith) in
    omega (arith, upper, lower)

own-halves : (h : ℕ) → halves h h ≡ true
own-halves h =
    ap (λ t. t && int_eq (handle_row 0 h).key (handle_row 0 h).key)
    ((Decides-eqb (handle_row 0 h).kind (handle_row 0 h).kind).1 refl)
    ∙ (Decides-int_eq (handle_row 0 h).key (handle_row 0 h).key).1 refl

same-number : (g h : ℕ) → halves g h ≡ (g == h)
same-number g h = cases (halves g h) (g == h) refl refl
  where
    cases : (t u : Bool) → halves g h ≡ t → (g == h) ≡ u → t ≡ u
    cases true true a b = refl
    cases false false a b = refl
    cases true false a b = sym ((Decides-eqb g h).1 (one-number g h a)) ∙ b
    cases false true a b =
        sym a ∙ ap (λ n. halves g n) (sym ((Decides-eqb g h).0 b)) ∙ own-halves g

held-is : (h : ℕ) (r : Reference) → is_held (handle_row 0 h).kind (handle_row 0 h).key r ≡ has_handle h r
held-is h r = cases r.handle
  where
    cases : (o : Option ℕ) → is_own (held_row 0 o) (handle_row 0 h).kind (handle_row 0 h).key ≡ is_handle h o
    cases None = refl
    cases (Some g) = same-number g h

first-same : {A : Type 0} (p q : A → Bool) → ((x : A) → p x ≡ q x) → (xs : List A)
    → first_place p xs ≡ first_place q xs
first-same p q same [] = refl
first-same p q same (x ∷ xs) =
    first-cons p x xs ∙ ap (λ t. one_on t (first_place p xs)) (same x)
    ∙ ap (one_on (q x)) (first-same p q same xs) ∙ sym (first-cons q x xs)

pub held-told : (h : ℕ) (rows : List Row) (references : List Reference) → IsIndex is_held rows references
    → place_in (handle_row 0 h).kind (handle_row 0 h).key rows ≡ first_place (has_handle h) references
held-told h rows references index =
    index.tells (handle_row 0 h).kind (handle_row 0 h).key
    ∙ first-same (is_held (handle_row 0 h).kind (handle_row 0 h).key) (has_handle h) (held-is h) references

-- there is room for a row where a reference has no handle
pub room-for : (rows : List Row) (capacity : ℕ) (references : List Reference) (at : ℕ)
    → IfSome (slice_get references at) (λ r. r.handle ≡ None) → at < length references
    → IsHolding rows capacity references → length rows < capacity
room-for rows capacity references at none inside holding = cases (slice_get references at) refl none
  where
    cases : (o : Option Reference) → slice_get references at ≡ o → IfSome o (λ r. r.handle ≡ None)
        → length rows < capacity
    cases None e none = absurd (get-inside references at inside e)
    cases (Some r) e none =
        let less = fewer-rows rows references at r e none holding.each in
        let room = holding.room in
        omega (arith, less, room)

-- references of which none has a handle
none-read : (f : ℕ → ℤ → ℕ) (kind : ℕ) (refs : List Ref) (rest : List Reference) → held_weights f rest ≡ 0
    → held_weights f (map (read_reference kind) refs ++ rest) ≡ 0
none-read f kind [] rest e = e
none-read f kind (r ∷ refs) rest e =
    let more = sum_by-cons (λ (x : Reference). weight f (held_row 0 x.handle)) (read_reference kind r)
    (map (read_reference kind) refs ++ rest) in
    let none = none-read f kind refs rest e in
    omega (arith, more, none)

none-groups : (f : ℕ → ℤ → ℕ) (groups : List Group) → held_weights f (of_groups groups) ≡ 0
none-groups f [] = refl
none-groups f (g ∷ groups) = none-read f g.kind g.refs (of_groups groups) (none-groups f groups)

pub holding-none : (groups : List Group) (rows : List Row) (capacity : ℕ) (references : List Reference)
    → references ≡ of_groups groups → rows ≡ [] → length references ≤ capacity → IsHolding rows capacity references
holding-none groups rows capacity references are none room =
    subst (λ (l : List Row). IsHolding l capacity references) (sym none) (record {
      index = record {
        rising = λ i j d le less. absurd (omega arith);
        tells = λ k i. sym (held-zero k i references (nothing (one k i)));
      };
      each = λ f. sym (nothing f);
      room = room;
    })
  where
    nothing : (f : ℕ → ℤ → ℕ) → held_weights f references ≡ 0
    nothing f = ap (held_weights f) are ∙ none-groups f groups

-- references that keep their handles
pub holding-put : (rows : List Row) (capacity : ℕ) (references : List Reference) (at : ℕ) (r x : Reference)
    → slice_get references at ≡ Some r → x.handle ≡ r.handle → IsHolding rows capacity references
    → IsHolding rows capacity (slice_set references at x)
holding-put rows capacity references at r x e same holding = record {
  index = index-alike is_held rows references at r x e (λ k i. ap (λ o. is_own (held_row 0 o) k i) same) holding.index;
  each = λ f. let set = held-set f references at r x e in
      let own = ap (λ o. weight f (held_row 0 o)) same in
      let all = holding.each f in
      omega (arith, set, own, all);
  room = let size = length-set references at x in let room = holding.room in omega (arith, size, room);
}

pub holding-set : (f : Reference → Reference) → ((r : Reference) → (f r).handle ≡ r.handle) → (rows : List Row)
    (capacity : ℕ) (m : Map) (old new : List Reference) (at : ℕ) → old ≡ m.references → at < length m.references
    → IfSome (slice_get old at) (λ r. new ≡ slice_set old at (f r)) → IsHolding rows capacity old
    → IsHolding rows capacity new
holding-set f keeps rows capacity m old new at seen within set holding =
    cases (slice_get old at) refl set
  where
    inside : at < length old
    inside = subst (λ (l : List Reference). at < length l) (sym seen) within

    cases : (o : Option Reference) → slice_get old at ≡ o → IfSome o (λ r. new ≡ slice_set old at (f r))
        → IsHolding rows capacity new
    cases None e set = absurd (get-inside old at inside e)
    cases (Some r) e set =
        subst (IsHolding rows capacity) (sym set) (holding-put rows capacity old at r (f r) e (keeps r) holding)

pub holding-seen_at : (refs : List StoredReference) (at : ℕ) (x y : StoredReference) → at < length refs
    → x ≡ get_or refs at x → (view_reference y).handle ≡ (view_reference x).handle → (rows : List Row) (capacity : ℕ)
    → IsHolding rows capacity (map view_reference refs) → IsHolding rows capacity (map view_reference (slice_set refs at y))
holding-seen_at refs at x y inside is same rows capacity holding =
    subst (IsHolding rows capacity) (sym (map-set view_reference refs at y))
    (holding-put rows capacity (map view_reference refs) at (view_reference x) (view_reference y)
    (slice_get-map view_reference refs at
    ∙ ap (option_map view_reference) (slice_get-get_or refs at x inside ∙ ap Some (sym is))) same holding)

size-anew : (all : List (Option (List ℕ))) (references : List Reference)
    → length (all_anew all references) ≡ length references
size-anew [] references = refl
size-anew (bytes ∷ all) [] = refl
size-anew (bytes ∷ all) (r ∷ references) = ap suc (size-anew all references)

weights-anew : (f : ℕ → ℤ → ℕ) (all : List (Option (List ℕ))) (references : List Reference)
    → held_weights f (all_anew all references) ≡ held_weights f references
weights-anew f [] references = refl
weights-anew f (bytes ∷ all) [] = refl
weights-anew f (bytes ∷ all) (r ∷ references) =
    sum_by-cons (λ (x : Reference). weight f (held_row 0 x.handle)) (stored_anew bytes r) (all_anew all references)
    ∙ ap (λ n. weight f (held_row 0 r.handle) + n) (weights-anew f all references)
    ∙ sym (sum_by-cons (λ (x : Reference). weight f (held_row 0 x.handle)) r references)

pub holding-anew : (rows : List Row) (capacity : ℕ) (all : List (Option (List ℕ))) (references stored : List Reference)
    → IsHolding rows capacity references → stored ≡ all_anew all references → IsHolding rows capacity stored
holding-anew rows capacity all references stored holding anew = record {
  index = index-anew is_held (λ k i bytes r. refl) rows all references stored holding.index anew;
  each = λ f. holding.each f ∙ sym (ap (held_weights f) anew ∙ weights-anew f all references);
  room =
      let size = ap length anew ∙ size-anew all references in let room = holding.room in omega (arith, size, room);
}

-- a reference that loses its handle
pub index-let-go : (test : ℕ → ℤ → Reference → Bool) (rows new : List Row) (kind : ℕ) (id : ℤ) (first : Option ℕ)
    (references : List Reference) (at : ℕ) (old x : Reference) → slice_get references at ≡ Some old
    → IsAt test kind id old → IsRowOf test None x
    → first ≡ first_place (test kind id) (slice_set references at x) → IsIndex test rows references → IsRising new
    → IsToldAs kind id first rows new → IsIndex test new (slice_set references at x)
index-let-go test rows new kind id first references at old x there own none is index rising told = record {
  rising = rising;
  tells = λ k i. told k i ∙ cases k i (kind == k && int_eq id i) refl;
}
  where
    cases : (k : ℕ) (i : ℤ) (t : Bool) → (kind == k && int_eq id i) ≡ t
        → cond t first (place_in k i rows) ≡ first_place (test k i) (slice_set references at x)
    cases k i true e =
        let key = key-of kind id k i e in
        is ∙ ap (λ m. first_place (test m id) (slice_set references at x)) key.0
        ∙ ap (λ m. first_place (test k m) (slice_set references at x)) key.1
    cases k i false e =
        index.tells k i
        ∙ sym (first-set (test k i) references at old x there (own k i ∙ e)
        ∙ ap (λ t. replaced_at t at (first_place (test k i) references)) (none k i))

-- the row that a reference had tells its handle
own-row : (at : ℕ) (row : Row) (o : Option ℕ) → Some row ≡ held_row at o
    → (row.place ≡ at) × ((f : ℕ → ℤ → ℕ) → weight f (held_row 0 o) ≡ f row.kind row.key)
own-row at row None e = cc
own-row at row (Some h) e =
    let is : row ≡ handle_row at h = cc in
    (ap (λ (r : Row). r.place) is, λ f. ap (λ (r : Row). f r.kind r.key) (sym is))

row-own : (at : ℕ) (row : Row) (r : Reference) → Some row ≡ held_row at r.handle → IsAt is_held row.kind row.key r
row-own at row r e = subst (λ o. IsRowOf is_held o r) (sym e) (row-held at r)

pub holding-let-go : (rows new : List Row) (capacity more : ℕ) (row : Row) (at : ℕ) (old taken seen : List Reference)
    → at < length old → IfSome (slice_get old at) (λ r. Some row ≡ held_row at r.handle)
    → IfSome (slice_get old at) (λ r. taken ≡ slice_set old at (with_handle None r)) → seen ≡ taken → IsRising new
    → (IsEachAnd row rows seen → IsToldAs row.kind row.key (first_place (is_held row.kind row.key) seen) rows new)
    → (IsEachAnd row rows seen → IsEach new seen) → capacity ≤ more → IsHolding rows capacity old
    → IsHolding new more taken
holding-let-go rows new capacity more row at old taken seen inside read set same rising told each le holding =
    cases (slice_get old at) refl read set
  where
    cases : (o : Option Reference) → slice_get old at ≡ o → IfSome o (λ r. Some row ≡ held_row at r.handle)
        → IfSome o (λ r. taken ≡ slice_set old at (with_handle None r)) → IsHolding new more taken
    cases None e read set = absurd (get-inside old at inside e)
    cases (Some r) e read set =
        let left : IsEachAnd row rows seen = λ f.
        let all = holding.each f in
        let changed = held-set f old at r (with_handle None r) e in
        let own = (own-row at row r.handle read).1 f in
        let now = ap (held_weights f) (same ∙ set) in
        omega (arith, all, changed, own, now) in
        subst (IsHolding new more) (sym set) (record {
          index = index-let-go is_held rows new row.kind row.key (first_place (is_held row.kind row.key) seen) old at r
              (with_handle None r) e (row-own at row r read) (λ k i. refl)
              (ap (first_place (is_held row.kind row.key)) (same ∙ set)) holding.index rising (told left);
          each = subst (IsEach new) (same ∙ set) (each left);
          room = let size = length-set old at (with_handle None r) in let room = holding.room in
              omega (arith, size, room, le);
        })

pub holding-unheld : (rows : List Row) (capacity : ℕ) (at : ℕ) (old taken : List Reference)
    → at < length old → IfSome (slice_get old at) (λ r. None ≡ held_row at r.handle)
    → IfSome (slice_get old at) (λ r. taken ≡ slice_set old at (with_handle None r)) → IsHolding rows capacity old
    → IsHolding rows capacity taken
holding-unheld rows capacity at old taken inside read set holding = cases (slice_get old at) refl read set
  where
    none : (o : Option ℕ) → None ≡ held_row at o → None ≡ o
    none None e = refl
    none (Some h) e = cc

    cases : (o : Option Reference) → slice_get old at ≡ o → IfSome o (λ r. None ≡ held_row at r.handle)
        → IfSome o (λ r. taken ≡ slice_set old at (with_handle None r)) → IsHolding rows capacity taken
    cases None e read set = absurd (get-inside old at inside e)
    cases (Some r) e read set =
        subst (IsHolding rows capacity) (sym set)
        (holding-put rows capacity old at r (with_handle None r) e (none r.handle read) holding)

-- a reference that is taken out
pub holding-left : (rows mid new : List Row) (capacity : ℕ) (row : Row) (at : ℕ) (references seen : List Reference)
    (old : Reference) → slice_get references at ≡ Some old → Some row ≡ held_row at old.handle
    → seen ≡ remove references at → mid ≡ map (moved (lowered at)) rows → (IsRising mid → IsRising new)
    → (IsRising mid → IsEachAnd row mid seen
    → IsToldAs row.kind row.key (first_place (is_held row.kind row.key) seen) mid new)
    → (IsRising mid → IsEachAnd row mid seen → IsEach new seen) → IsHolding rows capacity references
    → IsHolding new capacity (remove references at)
holding-left rows mid new capacity row at references seen old e read gone gap rising told each holding =
    subst (λ n. IsHolding new capacity (remove references n)) place (record {
      index = index-left is_held rows mid new row (first_place (is_held row.kind row.key) seen) references old
          (ap (slice_get references) place ∙ e) (row-own at row old read)
          (ap (first_place (is_held row.kind row.key)) gone-there) holding.index
          (gap ∙ ap (λ n. map (moved (lowered n)) rows) (sym place)) (rising mid-rising) (told mid-rising left);
      each = subst (IsEach new) gone-there (each mid-rising left);
      room = let one = length-remove references row.place
          (slice_get_within references row.place old (ap (slice_get references) place ∙ e)) in
          let room = holding.room in omega (arith, one, room);
    })
  where
    place : row.place ≡ at
    place = (own-row at row old.handle read).0

    gone-there : seen ≡ remove references row.place
    gone-there = gone ∙ ap (remove references) (sym place)

    mid-rising : IsRising mid
    mid-rising = subst IsRising (sym gap) (rising-moved (lowered at) rows holding.index.rising)

    left : IsEachAnd row mid seen
    left f =
        let all = holding.each f in
        let less = held-removed f references at old e in
        let own = (own-row at row old.handle read).1 f in
        let now = ap (held_weights f) gone in
        let same = ap (row_weights f) gap ∙ weights-moved f (lowered at) rows in
        omega (arith, all, less, own, now, same)

pub holding-gone : (rows new : List Row) (capacity : ℕ) (at : ℕ) (references : List Reference) (old : Reference)
    → slice_get references at ≡ Some old → None ≡ held_row at old.handle → new ≡ map (moved (lowered at)) rows
    → IsHolding rows capacity references → IsHolding new capacity (remove references at)
holding-gone rows new capacity at references old e read gap holding = record {
  index = index-gone is_held rows new at references old e (subst (λ o. IsRowOf is_held o old) (sym read) (row-held at old))
      holding.index gap;
  each = λ f. let all = holding.each f in
      let less = held-removed f references at old e in
      let own = none f old.handle read in
      let same = ap (row_weights f) gap ∙ weights-moved f (lowered at) rows in
      omega (arith, all, less, own, same);
  room = let one = length-remove references at (slice_get_within references at old e) in
      let room = holding.room in omega (arith, one, room);
}
  where
    none : (f : ℕ → ℤ → ℕ) (o : Option ℕ) → None ≡ held_row at o → weight f (held_row 0 o) ≡ 0
    none f None e = refl
    none f (Some h) e = cc

pub holding-out : (rows new : List Row) (capacity more : ℕ) (row : Option Row) (at : ℕ) (refs left seen : List Reference)
    → at < length refs → IfSome (slice_get refs at) (λ r. row ≡ held_row at r.handle) → left ≡ remove refs at
    → seen ≡ left
    → ((capacity : ℕ) (references : List Reference) (old : Reference) → slice_get references at ≡ Some old
    → row ≡ held_row at old.handle → seen ≡ remove references at → IsHolding rows capacity references
    → IsHolding new capacity (remove references at)) → capacity ≤ more → IsHolding rows capacity refs
    → IsHolding new more left
holding-out rows new capacity more row at refs left seen inside read gone same leaves le holding =
    cases (slice_get refs at) refl read
  where
    cases : (o : Option Reference) → slice_get refs at ≡ o → IfSome o (λ r. row ≡ held_row at r.handle)
        → IsHolding new more left
    cases None e read = absurd (get-inside refs at inside e)
    cases (Some r) e read =
        let out = leaves capacity refs r e read (same ∙ gone) holding in
        subst (IsHolding new more) (sym gone) (record {
          index = out.index;
          each = out.each;
          room = let room = out.room in omega (arith, room, le);
        })

-- a reference that had none gets a handle
pub holding-given : (rows new : List Row) (capacity more : ℕ) (row : Row) (h : ℕ) (at : ℕ) (old given : List Reference)
    → at < length old → IfSome (slice_get old at) (λ r. r.handle ≡ None) → row ≡ handle_row at h
    → IfSome (slice_get old at) (λ r. given ≡ slice_set old at (with_handle (Some h) r)) → IsRising new
    → IsToldAs row.kind row.key (sooner row.place (place_in row.kind row.key rows)) rows new
    → ((f : ℕ → ℤ → ℕ) → row_weights f new ≡ row_weights f rows + f row.kind row.key)
    → capacity ≤ more → IsHolding rows capacity old → IsHolding new more given
holding-given rows new capacity more row h at old given inside none is set rising told weights le holding =
    cases (slice_get old at) refl none set
  where
    told-at : IsToldAs (handle_row at h).kind (handle_row at h).key
        (sooner at (place_in (handle_row at h).kind (handle_row at h).key rows)) rows new
    told-at = subst (λ (r : Row). IsToldAs r.kind r.key (sooner r.place (place_in r.kind r.key rows)) rows new) is told

    cases : (o : Option Reference) → slice_get old at ≡ o → IfSome o (λ r. r.handle ≡ None)
        → IfSome o (λ r. given ≡ slice_set old at (with_handle (Some h) r)) → IsHolding new more given
    cases None e none set = absurd (get-inside old at inside e)
    cases (Some r) e none set =
        subst (IsHolding new more) (sym set) (record {
          index = index-found is_held rows new (handle_row at h) old r (with_handle (Some h) r) e
              (λ k i. ap (λ o. is_own (held_row 0 o) k i) none) (row-held at (with_handle (Some h) r)) holding.index
              rising told-at;
          each = λ f. let all = holding.each f in
              let more = weights f in
              let own = ap (λ (x : Row). f x.kind x.key) is in
              let changed = held-set f old at r (with_handle (Some h) r) e in
              let nothing : weight f (held_row 0 r.handle) ≡ 0 = ap (λ o. weight f (held_row 0 o)) none in
              omega (arith, all, more, own, changed, nothing);
          room = let size = length-set old at (with_handle (Some h) r) in let room = holding.room in
              omega (arith, size, room, le);
        })

-- the row of a reference weighs the same at each place
pub placed-weight : (f : ℕ → ℤ → ℕ) (at : ℕ) (handle : Option ℕ) (row placed : Option Row) → row ≡ held_row 0 handle
    → placed ≡ option_map (moved (λ p. at)) row → weight f placed ≡ weight f (held_row 0 handle)
placed-weight f at handle row placed is moved-to =
    ap (weight f) (moved-to ∙ ap (option_map (moved (λ p. at))) is) ∙ same handle
  where
    same : (o : Option ℕ) → weight f (option_map (moved (λ p. at)) (held_row 0 o)) ≡ weight f (held_row 0 o)
    same None = refl
    same (Some h) = refl

-- a handle that is taken away, and one that is given then
pub taken-none : (old taken : List Reference) (at : ℕ) → at < length old
    → IfSome (slice_get old at) (λ r. taken ≡ slice_set old at (with_handle None r))
    → IfSome (slice_get taken at) (λ r. r.handle ≡ None)
taken-none old taken at inside set = cases (slice_get old at) refl set
  where
    cases : (o : Option Reference) → slice_get old at ≡ o
        → IfSome o (λ r. taken ≡ slice_set old at (with_handle None r)) → IfSome (slice_get taken at) (λ r. r.handle ≡ None)
    cases None e set = absurd (get-inside old at inside e)
    cases (Some r) e set =
        subst (λ o. IfSome o (λ (x : Reference). x.handle ≡ None))
        (sym (ap (λ l. slice_get l at) set ∙ read-back old at r (with_handle None r) e)) refl

pub set-again : (old taken given : List Reference) (at h : ℕ) → at < length old
    → IfSome (slice_get old at) (λ r. taken ≡ slice_set old at (with_handle None r))
    → IfSome (slice_get taken at) (λ r. given ≡ slice_set taken at (with_handle (Some h) r))
    → IfSome (slice_get old at) (λ r. given ≡ slice_set old at (with_handle (Some h) r))
set-again old taken given at h inside taken-is given-is = cases (slice_get old at) refl taken-is
  where
    cases : (o : Option Reference) → slice_get old at ≡ o
        → IfSome o (λ r. taken ≡ slice_set old at (with_handle None r))
        → IfSome o (λ r. given ≡ slice_set old at (with_handle (Some h) r))
    cases None e is = tt
    cases (Some r) e is =
        let there = ap (λ l. slice_get l at) is ∙ read-back old at r (with_handle None r) e in
        let last : given ≡ slice_set taken at (with_handle (Some h) r) =
        subst (λ o. IfSome o (λ (x : Reference). given ≡ slice_set taken at (with_handle (Some h) x))) there given-is in
        last ∙ ap (λ l. slice_set l at (with_handle (Some h) r)) is
        ∙ set-set old at (with_handle None r) (with_handle (Some h) r)
