use Rattle.res_map.proofs.Cited.{◌≡◌, ◌∙◌, refl, sym, ap, ℕ, ℤ, zero, suc, ◌+◌, ◌<◌, ◌≤◌, arith, Bool, true, false, cond, ◌&&◌, List, []}
use Rattle.res_map.proofs.Cited.{◌∷◌, length, Option, Some, None, get_or, map, int_eq, ⊎_elim, option_map, slice_get, slice_set, ◌==◌, ◌≢◌}
use Rattle.res_map.proofs.Cited.{insert, remove, cases_lt, Decides-int_eq, Decides-eqb, length-remove, get_or-remove_below}
use Rattle.res_map.proofs.Cited.{get_or-remove_above, sum_by-cons, sum_by-insert, sum_by-remove, sum_by-set, slice_get-get_or}
use Rattle.res_map.proofs.Cited.{slice_get_within, Row, Reference, IsEach, IsEachAnd, IsRising, IsToldAs, first_place, held_row}
use Rattle.res_map.proofs.Cited.{held_weights, is_held, is_own, is_row, moved, place_in, rank_of, row_weights, weight}
use Rattle.res_map.proofs.Places.{first-cons, one_on}
use Rattle.res_map.proofs.Rows.{row-key, told-same}

-- What rows and handles weigh, as they change.

-- rows with other places
pub weights-moved : (f : ℕ → ℤ → ℕ) (g : ℕ → ℕ) (rows : List Row)
    → row_weights f (map (moved g) rows) ≡ row_weights f rows
weights-moved f g [] = refl
weights-moved f g (x ∷ rows) =
    sum_by-cons (λ (r : Row). f r.kind r.key) (moved g x) (map (moved g) rows)
    ∙ ap (λ n. f x.kind x.key + n) (weights-moved f g rows)
    ∙ sym (sum_by-cons (λ (r : Row). f r.kind r.key) x rows)

-- a row that is put in, as a vector has it
pub put-weights : (old new : List Row) (at : ℕ) (row : Row) (done : Bool) → new ≡ cond done (insert old at row) old
    → done ≡ true → (f : ℕ → ℤ → ℕ) → row_weights f new ≡ row_weights f old + f row.kind row.key
put-weights old new at row done is sure f =
    ap (row_weights f) (is ∙ ap (λ t. cond t (insert old at row) old) sure)
    ∙ sum_by-insert (λ (r : Row). f r.kind r.key) old at row

-- a row in place of one of its type and key
same-weight : (f : ℕ → ℤ → ℕ) (row read : Row) → is_row row.kind row.key read ≡ true
    → f read.kind read.key ≡ f row.kind row.key
same-weight f row read here = let key = row-key row.kind row.key read here in
    ap (λ k. f k read.key) key.0 ∙ ap (f row.kind) key.1

pub set-weights : (rows : List Row) (at : ℕ) (row read : Row) → at < length rows → read ≡ get_or rows at read
    → is_row row.kind row.key read ≡ true → (f : ℕ → ℤ → ℕ)
    → row_weights f (slice_set rows at row) ≡ row_weights f rows
set-weights rows at row read inside is here f =
    let all = sum_by-set (λ (r : Row). f r.kind r.key) rows at row read inside in
    let one = same-weight f row read here in
    let there = ap (λ (r : Row). f r.kind r.key) is in
    omega (arith, all, one, there)

-- a row that is taken out
pub taken-weights : (rows : List Row) (at : ℕ) (row read : Row) → at < length rows → read ≡ get_or rows at read
    → is_row row.kind row.key read ≡ true → (f : ℕ → ℤ → ℕ)
    → row_weights f (remove rows at) + f row.kind row.key ≡ row_weights f rows
taken-weights rows at row read inside is here f =
    let all = sum_by-remove (λ (r : Row). f r.kind r.key) rows at read inside in
    let one = same-weight f row read here in
    let there = ap (λ (r : Row). f r.kind r.key) is in
    omega (arith, all, one, there)

pub taken-rising : (rows : List Row) (at : ℕ) → at < length rows → IsRising rows → IsRising (remove rows at)
taken-rising rows at inside rising i j d le less =
    ⊎_elim (λ i-below. ⊎_elim
    (λ j-below. let low = get_or-remove_below rows at d i i-below inside in
    let high = get_or-remove_below rows at d j j-below inside in
    let all = rising i j d le (omega arith) in omega (arith, ap rank_of low, ap rank_of high, all))
    (λ j-above. let low = get_or-remove_below rows at d i i-below inside in
    let high = get_or-remove_above rows at d j j-above inside in
    let all = rising i (j + 1) d (omega arith) (omega (arith, size)) in
    omega (arith, ap rank_of low, ap rank_of high, all)) (cases_lt j at))
    (λ i-above. let low = get_or-remove_above rows at d i i-above inside in
    let high = get_or-remove_above rows at d j (omega arith) inside in
    let all = rising (i + 1) (j + 1) d (omega arith) (omega (arith, size)) in
    omega (arith, ap rank_of low, ap rank_of high, all)) (cases_lt i at)
  where
    size : length (remove rows at) + 1 ≡ length rows
    size = length-remove rows at inside

place-taken : (rows : List Row) (at : ℕ) (k : ℕ) (i : ℤ) (d : Row) → at < length rows
    → is_row k i (get_or rows at d) ≡ false → place_in k i (remove rows at) ≡ place_in k i rows
place-taken [] at k i d inside other = absurd (omega arith)
place-taken (x ∷ rows) zero k i d inside other = sym (ap (λ t. cond t (Some x.place) (place_in k i rows)) other)
place-taken (x ∷ rows) (suc at) k i d inside other =
    ap (cond (is_row k i x) (Some x.place)) (place-taken rows at k i d (omega arith) other)

pub others-taken : (rows : List Row) (at : ℕ) (row read : Row) → at < length rows → read ≡ get_or rows at read
    → is_row row.kind row.key read ≡ true → (k : ℕ) (i : ℤ) → (row.kind == k && int_eq row.key i) ≡ false
    → place_in k i (remove rows at) ≡ place_in k i rows
others-taken rows at row read inside is here k i other =
    let key = row-key row.kind row.key read here in
    place-taken rows at k i read inside
    (ap (is_row k i) (sym is) ∙ ap (λ m. m == k && int_eq read.key i) key.0
    ∙ ap (λ m. row.kind == k && int_eq m i) key.1 ∙ other)

-- a type and key weigh 1, and all others nothing
abbrev pub one : ℕ → ℤ → ℕ → ℤ → ℕ
one kind key k i = cond (k == kind && int_eq i key) 1 0

rows-none : (k : ℕ) (i : ℤ) (rows : List Row) → place_in k i rows ≡ None → row_weights (one k i) rows ≡ 0
rows-none k i [] e = refl
rows-none k i (x ∷ rows) e =
    sum_by-cons (λ (r : Row). one k i r.kind r.key) x rows ∙ cases (is_row k i x) (rows-none k i rows) e
  where
    cases : (t : Bool) → (place_in k i rows ≡ None → row_weights (one k i) rows ≡ 0)
        → cond t (Some x.place) (place_in k i rows) ≡ None → cond {A = ℕ} t 1 0 + row_weights (one k i) rows ≡ 0
    cases true again e = cc
    cases false again e = let none = again e in omega (arith, none)

rows-zero : (k : ℕ) (i : ℤ) (rows : List Row) → row_weights (one k i) rows ≡ 0 → place_in k i rows ≡ None
rows-zero k i [] e = refl
rows-zero k i (x ∷ rows) e =
    cases (is_row k i x) (rows-zero k i rows) (sym (sum_by-cons (λ (r : Row). one k i r.kind r.key) x rows) ∙ e)
  where
    cases : (t : Bool) → (row_weights (one k i) rows ≡ 0 → place_in k i rows ≡ None)
        → cond {A = ℕ} t 1 0 + row_weights (one k i) rows ≡ 0 → cond t (Some x.place) (place_in k i rows) ≡ None
    cases true again e = absurd (omega (arith, e))
    cases false again e = again (omega (arith, e))

own-one : (k : ℕ) (i : ℤ) (o : Option Row) → weight (one k i) o ≡ cond {A = ℕ} (is_own o k i) 1 0
own-one k i None = refl
own-one k i (Some row) = refl

abbrev held-one : ℕ → ℤ → Reference → ℕ
held-one k i r = weight (one k i) (held_row 0 r.handle)

held-none : (k : ℕ) (i : ℤ) (references : List Reference) → first_place (is_held k i) references ≡ None
    → held_weights (one k i) references ≡ 0
held-none k i [] e = refl
held-none k i (r ∷ references) e =
    sum_by-cons (held-one k i) r references
    ∙ ap (λ n. n + held_weights (one k i) references) (own-one k i (held_row 0 r.handle))
    ∙ cases (is_held k i r) (first_place (is_held k i) references) (held-none k i references)
    (sym (first-cons (is_held k i) r references) ∙ e)
  where
    cases : (t : Bool) (o : Option ℕ) → (o ≡ None → held_weights (one k i) references ≡ 0) → one_on t o ≡ None
        → cond {A = ℕ} t 1 0 + held_weights (one k i) references ≡ 0
    cases true o again e = cc
    cases false None again e = let none = again refl in omega (arith, none)
    cases false (Some p) again e = cc

pub held-zero : (k : ℕ) (i : ℤ) (references : List Reference) → held_weights (one k i) references ≡ 0
    → first_place (is_held k i) references ≡ None
held-zero k i [] e = refl
held-zero k i (r ∷ references) e =
    first-cons (is_held k i) r references
    ∙ cases (is_held k i r) (held-zero k i references)
    (ap (λ n. n + held_weights (one k i) references) (sym (own-one k i (held_row 0 r.handle)))
    ∙ sym (sum_by-cons (held-one k i) r references) ∙ e)
  where
    cases : (t : Bool) → (held_weights (one k i) references ≡ 0 → first_place (is_held k i) references ≡ None)
        → cond {A = ℕ} t 1 0 + held_weights (one k i) references ≡ 0
        → one_on t (first_place (is_held k i) references) ≡ None
    cases true again e = absurd (omega (arith, e))
    cases false again e = ap (option_map suc) (again (omega (arith, e)))

-- a row of a reference that has let it go is there, and then taken out
self-one : (row : Row) → one row.kind row.key row.kind row.key ≡ 1
self-one row = ap (λ t. cond {A = ℕ} t 1 0)
    (ap (λ t. t && int_eq row.key row.key) ((Decides-eqb row.kind row.kind).1 refl) ∙ (Decides-int_eq row.key row.key).1 refl)

pub row-there : (row : Row) (rows : List Row) (references : List Reference) → IsEachAnd row rows references
    → place_in row.kind row.key rows ≢ None
row-there row rows references each none =
    let nothing = rows-none row.kind row.key rows none in
    let all = each (one row.kind row.key) in
    let own = self-one row in
    omega (arith, nothing, all, own)

pub each-left : (row : Row) (rows mid : List Row) (references : List Reference)
    → ((f : ℕ → ℤ → ℕ) → row_weights f mid + f row.kind row.key ≡ row_weights f rows)
    → IsEachAnd row rows references → IsEach mid references
each-left row rows mid references taken each f =
    let less = taken f in let all = each f in omega (arith, less, all)

-- no other reference has the handle where no row is left
pub none-left : (row : Row) (rows mid : List Row) (references : List Reference) → IsEach mid references
    → ((k : ℕ) (i : ℤ) → (row.kind == k && int_eq row.key i) ≡ false → place_in k i mid ≡ place_in k i rows)
    → place_in row.kind row.key mid ≡ None
    → IsToldAs row.kind row.key (first_place (is_held row.kind row.key) references) rows mid
none-left row rows mid references each others none k i = cases (row.kind == k && int_eq row.key i) refl
  where
    cases : (t : Bool) → (row.kind == k && int_eq row.key i) ≡ t
        → place_in k i mid ≡ cond t (first_place (is_held row.kind row.key) references) (place_in k i rows)
    cases true is =
        told-same k i row mid is ∙ none
        ∙ sym (held-zero row.kind row.key references
        (sym (each (one row.kind row.key)) ∙ rows-none row.kind row.key mid none))
    cases false is = others k i is

-- the first of the others that have it
pub first-left : (row : Row) (rows mid new : List Row) (first other : Option ℕ) → other ≡ first
    → ((k : ℕ) (i : ℤ) → (row.kind == k && int_eq row.key i) ≡ false → place_in k i mid ≡ place_in k i rows)
    → IsToldAs row.kind row.key other mid new → IsToldAs row.kind row.key first rows new
first-left row rows mid new first other is others told k i =
    told k i ∙ cases (row.kind == k && int_eq row.key i) refl
  where
    cases : (t : Bool) → (row.kind == k && int_eq row.key i) ≡ t
        → cond t other (place_in k i mid) ≡ cond t first (place_in k i rows)
    cases true same = is
    cases false same = others k i same

pub some-left : (row : Row) (mid : List Row) (references : List Reference) → IsEach mid references
    → place_in row.kind row.key mid ≢ None → first_place (is_held row.kind row.key) references ≡ None → ⊥
some-left row mid references each some none =
    some (rows-zero row.kind row.key mid (each (one row.kind row.key) ∙ held-none row.kind row.key references none))

-- references that change
pub held-set : (f : ℕ → ℤ → ℕ) (references : List Reference) (at : ℕ) (r x : Reference) → slice_get references at ≡ Some r
    → held_weights f (slice_set references at x) + weight f (held_row 0 r.handle)
    ≡ held_weights f references + weight f (held_row 0 x.handle)
held-set f references at r x e =
    let inside = slice_get_within references at r e in
    let all = sum_by-set (λ (y : Reference). weight f (held_row 0 y.handle)) references at x r inside in
    let same : r ≡ get_or references at r = (let both = sym e ∙ slice_get-get_or references at r inside in cc) in
    let own = ap (λ (y : Reference). weight f (held_row 0 y.handle)) same in
    omega (arith, all, own)

pub held-removed : (f : ℕ → ℤ → ℕ) (references : List Reference) (at : ℕ) (r : Reference) → slice_get references at ≡ Some r
    → held_weights f (remove references at) + weight f (held_row 0 r.handle) ≡ held_weights f references
held-removed f references at r e =
    let inside = slice_get_within references at r e in
    let all = sum_by-remove (λ (y : Reference). weight f (held_row 0 y.handle)) references at r inside in
    let same : r ≡ get_or references at r = (let both = sym e ∙ slice_get-get_or references at r inside in cc) in
    let own = ap (λ (y : Reference). weight f (held_row 0 y.handle)) same in
    omega (arith, all, own)

pub held-inserted : (f : ℕ → ℤ → ℕ) (references : List Reference) (at : ℕ) (x : Reference)
    → held_weights f (insert references at x) ≡ held_weights f references + weight f (held_row 0 x.handle)
held-inserted f references at x = sum_by-insert (λ (y : Reference). weight f (held_row 0 y.handle)) references at x

-- there are no more rows than references
rows-size : (rows : List Row) → row_weights (λ k i. 1) rows ≡ length rows
rows-size [] = refl
rows-size (x ∷ rows) =
    let more = sum_by-cons (λ (r : Row). 1) x rows in let all = rows-size rows in omega (arith, more, all)

own-size : (o : Option Row) → weight (λ k i. 1) o ≤ 1
own-size None = omega arith
own-size (Some row) = omega arith

held-size : (references : List Reference) → held_weights (λ k i. 1) references ≤ length references
held-size [] = omega arith
held-size (r ∷ references) =
    let more = sum_by-cons (λ (y : Reference). weight (λ k i. 1) (held_row 0 y.handle)) r references in
    let one = own-size (held_row 0 r.handle) in
    let all = held-size references in omega (arith, more, one, all)

pub fewer-rows : (rows : List Row) (references : List Reference) (at : ℕ) (r : Reference) → slice_get references at ≡ Some r
    → r.handle ≡ None → IsEach rows references → length rows < length references
fewer-rows rows references at r e none each =
    let size = rows-size rows in
    let same = each (λ k i. 1) in
    let left = held-removed (λ k i. 1) references at r e in
    let own : weight (λ k i. 1) (held_row 0 r.handle) ≡ 0 = ap (λ h. weight (λ k i. 1) (held_row 0 h)) none in
    let all = held-size (remove references at) in
    let one = length-remove references at (slice_get_within references at r e) in
    omega (arith, size, same, left, own, all, one)
