use Rattle.res_map.proofs.Cited.{◌≡◌, ◌∙◌, refl, sym, ap, ℕ, ℤ, zero, suc, ◌+◌, ◌<◌, ◌≤◌, arith, Bool, true, false, cond, not, ◌&&◌, List}
use Rattle.res_map.proofs.Cited.{[], ◌∷◌, ◌++◌, length, Option, Some, None, IfSome, get_or, map, take, drop, subst, int_eq, nat_cmp, is_lt}
use Rattle.res_map.proofs.Cited.{⊎_elim, length-set, option_map, slice_get, slice_set, nat_lt, ◌==◌, ◌≢◌, insert, remove, IsStableBy}
use Rattle.res_map.proofs.Cited.{IsPartitionPoint, IsNonDecreasingBy-insert, nat_tests, Decides-int_eq, Decides-eqb, get_or-map, length-map}
use Rattle.res_map.proofs.Cited.{get_or_default, length-take-le, map-set, append-nil, slice_get-map, slice_get-get_or, cases_lt, and_parts}
use Rattle.res_map.proofs.Cited.{view_reference, StoredReference, Row, Reference, Map, is_resource, all_anew, stored_anew, renamed, name_by}
use Rattle.res_map.proofs.Cited.{print, IsIndex, IsRising, IsToldAs, rank, rank_of, is_row, place_in, moved, sooner, entered, raised}
use Rattle.res_map.proofs.Cited.{lowered, first_place, IsAt, IsRowOf, IsWithin, is_own, is_printed, has_print, named_row, rows_in}
use Rattle.std.proofs.Common.{filter}
use Rattle.res_map.proofs.Places.{later, first-insert, first-remove, first-set, first-alike, first-there, first-push, replaced_at}
use Rattle.res_map.proofs.Places.{some-none, first-cons, first-within, one_on}
use Rattle.res_map.proofs.Splitting.{get-inside}

-- What rows tell, as they change.

-- a row of a type and ID has that type, and that ID
pub row-key : (kind : ℕ) (id : ℤ) (row : Row) → is_row kind id row ≡ true → (row.kind ≡ kind) × (row.key ≡ id)
row-key kind id row e =
    let two = and_parts (row.kind == kind) (int_eq row.key id) e in
    ((Decides-eqb row.kind kind).0 two.0, (Decides-int_eq row.key id).0 two.1)

pub row-rank : (kind : ℕ) (id : ℤ) (row : Row) → is_row kind id row ≡ true → rank_of row ≡ rank kind id
row-rank kind id row e = let key = row-key kind id row e in
    ap (λ k. rank k row.key) key.0 ∙ ap (rank kind) key.1

-- two rows of a type and ID are of the type and ID of each other
pub row-same : (kind : ℕ) (id : ℤ) (a b : Row) → is_row kind id a ≡ true → is_row kind id b ≡ true
    → is_row b.kind b.key a ≡ true
row-same kind id a b ea eb = let key = row-key kind id b eb in
    ap (λ k. is_row k b.key a) key.0 ∙ ap (λ i. is_row kind i a) key.1 ∙ ea

-- what is told of a type and ID is told of each that is the same
pub told-same : (kind : ℕ) (id : ℤ) (row : Row) (rows : List Row) → is_row kind id row ≡ true
    → place_in kind id rows ≡ place_in row.kind row.key rows
told-same kind id row rows e = let key = row-key kind id row e in
    sym (ap (λ k. place_in k row.key rows) key.0 ∙ ap (λ i. place_in kind i rows) key.1)

-- none of the first n rows is of the type and ID
abbrev pub Clear : ℕ → ℤ → List Row → ℕ → Type 0
Clear kind id rows n = (j : ℕ) (d : Row) → j < n → is_row kind id (get_or rows j d) ≡ false

clear-rest : (kind : ℕ) (id : ℤ) (x : Row) (rows : List Row) (n : ℕ) → Clear kind id (x ∷ rows) (suc n)
    → Clear kind id rows n
clear-rest kind id x rows n clear j d less = clear (suc j) d (omega arith)

one-clear : (kind : ℕ) (id : ℤ) (x : Row) (rows : List Row) (n : ℕ) → Clear kind id (x ∷ rows) (suc n)
    → is_row kind id x ≡ false
one-clear kind id x rows n clear = clear 0 x (omega arith)

pub place-none : (kind : ℕ) (id : ℤ) (rows : List Row) → Clear kind id rows (length rows) → place_in kind id rows ≡ None
place-none kind id [] clear = refl
place-none kind id (x ∷ rows) clear =
    ap (λ t. cond t (Some x.place) (place_in kind id rows)) (one-clear kind id x rows (length rows) clear)
    ∙ place-none kind id rows (clear-rest kind id x rows (length rows) clear)

pub place-found : (kind : ℕ) (id : ℤ) (rows : List Row) (at : ℕ) (row : Row) → at < length rows
    → Clear kind id rows at → row ≡ get_or rows at row → is_row kind id row ≡ true
    → place_in kind id rows ≡ Some row.place
place-found kind id [] at row inside clear is here = absurd (omega arith)
place-found kind id (x ∷ rows) zero row inside clear is here =
    ap (λ t. cond t (Some x.place) (place_in kind id rows)) (ap (is_row kind id) (sym is) ∙ here)
    ∙ ap (λ (r : Row). Some r.place) (sym is)
place-found kind id (x ∷ rows) (suc at) row inside clear is here =
    ap (λ t. cond t (Some x.place) (place_in kind id rows)) (one-clear kind id x rows at clear)
    ∙ place-found kind id rows at row (omega arith) (clear-rest kind id x rows at clear) is here

-- a row that is put in before all others of its type and ID
apart : (k : ℕ) (i : ℤ) (x row : Row) (t u : Bool) (there old : Option ℕ) → is_row row.kind row.key x ≡ false
    → is_row k i x ≡ t → is_row k i row ≡ u
    → cond t (Some x.place) (cond u there old) ≡ cond u there (cond t (Some x.place) old)
apart k i x row true true there old other xs rows =
    absurd (let no : true ≡ false = sym (row-same k i x row xs rows) ∙ other in cc)
apart k i x row true false there old other xs rows = refl
apart k i x row false u there old other xs rows = refl

pub place-insert : (rows : List Row) (at : ℕ) (row : Row) → at ≤ length rows → Clear row.kind row.key rows at
    → IsToldAs row.kind row.key (Some row.place) rows (insert rows at row)
place-insert [] zero row inside clear k i = refl
place-insert (x ∷ rows) zero row inside clear k i = refl
place-insert [] (suc at) row inside clear k i = absurd (omega arith)
place-insert (x ∷ rows) (suc at) row inside clear k i =
    ap (cond (is_row k i x) (Some x.place))
    (place-insert rows at row (omega arith) (clear-rest row.kind row.key x rows at clear) k i)
    ∙ apart k i x row (is_row k i x) (is_row k i row) (Some row.place) (place_in k i rows)
    (one-clear row.kind row.key x rows at clear) refl refl

-- a row in place of the first of its type and ID
instead : (k : ℕ) (i : ℤ) (x row : Row) (t u : Bool) (there new old : Option ℕ) → is_row row.kind row.key x ≡ true
    → is_row k i x ≡ t → is_row k i row ≡ u → cond u there old ≡ cond u there (cond t (Some x.place) old)
instead k i x row t true there new old same xs rows = refl
instead k i x row false false there new old same xs rows = refl
instead k i x row true false there new old same xs rows =
    absurd (let key = row-key row.kind row.key x same in
    let is : is_row k i row ≡ true = ap (λ m. m == k && int_eq row.key i) (sym key.0)
    ∙ ap (λ m. x.kind == k && int_eq m i) (sym key.1) ∙ xs in
    let no : true ≡ false = sym is ∙ rows in cc)

pub place-set : (rows : List Row) (at : ℕ) (row : Row) → at < length rows → Clear row.kind row.key rows at
    → is_row row.kind row.key (get_or rows at row) ≡ true
    → IsToldAs row.kind row.key (Some row.place) rows (slice_set rows at row)
place-set [] at row inside clear here k i = absurd (omega arith)
place-set (x ∷ rows) zero row inside clear here k i =
    instead k i x row (is_row k i x) (is_row k i row) (Some row.place) None (place_in k i rows) here refl refl
place-set (x ∷ rows) (suc at) row inside clear here k i =
    ap (cond (is_row k i x) (Some x.place))
    (place-set rows at row (omega arith) (clear-rest row.kind row.key x rows at clear) here k i)
    ∙ apart k i x row (is_row k i x) (is_row k i row) (Some row.place) (place_in k i rows)
    (one-clear row.kind row.key x rows at clear) refl refl

-- rows of which only some are kept
keep : (k : ℕ) (i : ℤ) (x : Row) (kept rest : List Row) (t u : Bool) (old : Option ℕ) → (u ≡ true → t ≡ true)
    → is_row k i x ≡ u → place_in k i kept ≡ old
    → place_in k i (cond t (x ∷ kept) kept) ≡ cond u (Some x.place) old
keep k i x kept rest true u old then is e = ap (λ b. cond b (Some x.place) (place_in k i kept)) is ∙ ap (cond u (Some x.place)) e
keep k i x kept rest false true old then is e = absurd (let no : false ≡ true = then refl in cc)
keep k i x kept rest false false old then is e = e

pub place-filter : (q : Row → Bool) (k : ℕ) (i : ℤ) → ((r : Row) → is_row k i r ≡ true → q r ≡ true) → (rows : List Row)
    → place_in k i (filter q rows) ≡ place_in k i rows
place-filter q k i all [] = refl
place-filter q k i all (x ∷ rows) =
    keep k i x (filter q rows) rows (q x) (is_row k i x) (place_in k i rows) (all x) refl (place-filter q k i all rows)

-- all rows of a type and ID are dropped
dropped-none : (kind : ℕ) (id : ℤ) (rows : List Row)
    → place_in kind id (filter (λ r. not (is_row kind id r)) rows) ≡ None
dropped-none kind id [] = refl
dropped-none kind id (x ∷ rows) =
    cases (is_row kind id x) refl (dropped-none kind id rows)
  where
    cases : (t : Bool) → is_row kind id x ≡ t
        → place_in kind id (filter (λ r. not (is_row kind id r)) rows) ≡ None
        → place_in kind id (cond (not t) (x ∷ filter (λ r. not (is_row kind id r)) rows)
        (filter (λ r. not (is_row kind id r)) rows)) ≡ None
    cases true is e = e
    cases false is e =
        ap (λ b. cond b (Some x.place) (place_in kind id (filter (λ r. not (is_row kind id r)) rows))) is ∙ e

pub place-dropped : (kind : ℕ) (id : ℤ) (rows : List Row)
    → IsToldAs kind id None rows (filter (λ r. not (is_row kind id r)) rows)
place-dropped kind id rows k i = cases (kind == k && int_eq id i) refl
  where
    other : (t : Bool) (r : Row) → (kind == k && int_eq id i) ≡ false → is_row k i r ≡ true → is_row kind id r ≡ t
        → not t ≡ true
    other true r apart is own =
        absurd (let key = row-key kind id r own in
        let yes : (kind == k && int_eq id i) ≡ true = ap (λ m. m == k && int_eq id i) (sym key.0)
        ∙ ap (λ m. r.kind == k && int_eq m i) (sym key.1) ∙ is in
        let e : true ≡ false = sym yes ∙ apart in cc)
    other false r apart is own = refl

    cases : (t : Bool) → (kind == k && int_eq id i) ≡ t
        → place_in k i (filter (λ r. not (is_row kind id r)) rows) ≡ cond t None (place_in k i rows)
    cases true same =
        told-same k i (record { kind = kind; key = id; place = 0 }) (filter (λ r. not (is_row kind id r)) rows) same
        ∙ dropped-none kind id rows
    cases false apart =
        place-filter (λ r. not (is_row kind id r)) k i (λ r is. other (is_row kind id r) r apart is refl) rows

-- rows with other places
pub place-moved : (f : ℕ → ℕ) (k : ℕ) (i : ℤ) (rows : List Row)
    → place_in k i (map (moved f) rows) ≡ option_map f (place_in k i rows)
place-moved f k i [] = refl
place-moved f k i (x ∷ rows) = cases (is_row k i x) (place-moved f k i rows)
  where
    cases : (t : Bool) → place_in k i (map (moved f) rows) ≡ option_map f (place_in k i rows)
        → cond t (Some (f x.place)) (place_in k i (map (moved f) rows))
        ≡ option_map f (cond t (Some x.place) (place_in k i rows))
    cases true e = refl
    cases false e = e

pub rising-moved : (f : ℕ → ℕ) (rows : List Row) → IsRising rows → IsRising (map (moved f) rows)
rising-moved f rows rising i j d le less =
    let size : length (map (moved f) rows) ≡ length rows = length-map rows (moved f) in
    let low = get_or-map (moved f) rows i d d (omega arith) in
    let high = get_or-map (moved f) rows j d d (omega arith) in
    let all = rising i j d le (omega arith) in
    omega (arith, ap rank_of low, ap rank_of high, all)

-- rows that are put in order
abbrev level-with : ℕ → Row → Bool
level-with n r = not (is_lt (nat_cmp n (rank_of r))) && not (is_lt (nat_cmp (rank_of r) n))

level-same : (m n : ℕ) → m ≡ n → not (is_lt (nat_cmp n m)) && not (is_lt (nat_cmp m n)) ≡ true
level-same m n e = grind (arith, nat_tests)

level-all : (k : ℕ) (i : ℤ) (r : Row) → is_row k i r ≡ true → level-with (rank k i) r ≡ true
level-all k i r is = level-same (rank_of r) (rank k i) (row-rank k i r is)

pub place-sorted : (old new : List Row) → IsStableBy (λ x y. is_lt (nat_cmp (rank_of x) (rank_of y))) old new → (k : ℕ)
    (i : ℤ) → place_in k i new ≡ place_in k i old
place-sorted old new stable k i =
    sym (place-filter (level-with (rank k i)) k i (level-all k i) new)
    ∙ ap (place_in k i) (stable (record { kind = k; key = i; place = 0 }))
    ∙ place-filter (level-with (rank k i)) k i (level-all k i) old

-- one more at the end
pub place-push : (k : ℕ) (i : ℤ) (rows : List Row) (row : Row)
    → place_in k i (rows ++ row ∷ []) ≡ later (place_in k i rows) (is_row k i row) row.place
place-push k i [] row = refl
place-push k i (x ∷ rows) row = cases (is_row k i x) (place-push k i rows row)
  where
    cases : (t : Bool) → place_in k i (rows ++ row ∷ []) ≡ later (place_in k i rows) (is_row k i row) row.place
        → cond t (Some x.place) (place_in k i (rows ++ row ∷ []))
        ≡ later (cond t (Some x.place) (place_in k i rows)) (is_row k i row) row.place
    cases true e = refl
    cases false e = e

-- The search by halving.

abbrev pub Below : ℕ → ℤ → List Row → ℕ → Type 0
Below kind id rows n = IsPartitionPoint (λ r. nat_lt (rank_of r) (rank kind id) ≡ true)
    (λ r. nat_lt (rank_of r) (rank kind id) ≡ false) rows n

not-below : (t : Bool) (m n : ℕ) → nat_lt m n ≡ true → (t ≡ true → m ≡ n) → t ≡ false
not-below true m n less e = absurd (let same : m ≡ n = e refl in grind (arith, nat_tests))
not-below false m n less e = refl

pub clear-below : (kind : ℕ) (id : ℤ) (rows : List Row) (n : ℕ) → Below kind id rows n → Clear kind id rows n
clear-below kind id rows n point j d less =
    not-below (is_row kind id (get_or rows j d)) (rank_of (get_or rows j d)) (rank kind id)
    (point.0 j d (omega arith) less) (row-rank kind id (get_or rows j d))

not-at : (t : Bool) (m n : ℕ) → n < m → (t ≡ true → m ≡ n) → t ≡ false
not-at true m n less e = absurd (let same : m ≡ n = e refl in omega arith)
not-at false m n less e = refl

pub clear-all : (kind : ℕ) (id : ℤ) (rows : List Row) (n : ℕ) (row : Row) → IsRising rows → Below kind id rows n
    → n < length rows → row ≡ get_or rows n row → (rank_of row ≡ rank kind id → ⊥) → Clear kind id rows (length rows)
clear-all kind id rows n row rising point inside is other j d less =
    ⊎_elim (λ early. clear-below kind id rows n point j d early)
    (λ behind. not-at (is_row kind id (get_or rows j d)) (rank_of (get_or rows j d)) (rank kind id)
    (let high = rising n j d behind less in
    let at = point.1 n row (omega arith) inside in
    let read : rank_of row ≡ rank_of (get_or rows n d) = ap rank_of (is ∙ get_or_default rows n row d inside) in
    grind (arith, nat_tests))
    (row-rank kind id (get_or rows j d)))
    (cases_lt j n)

-- a row that takes the place of one of its type and ID
rank-set : (rows : List Row) (at : ℕ) (row : Row) (i : ℕ) (d : Row) → at < length rows
    → rank_of row ≡ rank_of (get_or rows at row) → rank_of (get_or (slice_set rows at row) i d) ≡ rank_of (get_or rows i d)
rank-set [] at row i d inside same = absurd (omega arith)
rank-set (x ∷ rows) zero row zero d inside same = same
rank-set (x ∷ rows) zero row (suc i) d inside same = refl
rank-set (x ∷ rows) (suc at) row zero d inside same = refl
rank-set (x ∷ rows) (suc at) row (suc i) d inside same = rank-set rows at row i d (omega arith) same

pub rising-set : (rows : List Row) (at : ℕ) (row : Row) → at < length rows
    → is_row row.kind row.key (get_or rows at row) ≡ true → IsRising rows → IsRising (slice_set rows at row)
rising-set rows at row inside here rising i j d le less =
    let same : rank_of row ≡ rank_of (get_or rows at row) = sym (row-rank row.kind row.key (get_or rows at row) here) in
    let size : length (slice_set rows at row) ≡ length rows = length-set rows at row in
    let low = rank-set rows at row i d inside same in
    let high = rank-set rows at row j d inside same in
    let all = rising i j d le (omega arith) in
    omega (arith, low, high, all)

-- a row that is put in where no row of its type and ID stands before it
pub rising-insert : (rows : List Row) (at : ℕ) (row : Row) → at ≤ length rows → Below row.kind row.key rows at
    → IsRising rows → IsRising (insert rows at row)
rising-insert rows at row inside point rising =
    IsNonDecreasingBy-insert rank_of rows at row rising inside
    (λ k d less. let low = point.0 k d (omega arith) less in grind (arith, nat_tests))
    (λ k d from less. let high = point.1 k d from less in grind (arith, nat_tests))

-- what is told where none stands there
pub told-none : (kind : ℕ) (id : ℤ) (rows : List Row) (n : ℕ) → IsRising rows → Below kind id rows n
    → ((n < length rows) → (row : Row) → row ≡ get_or rows n row → rank_of row ≡ rank kind id → ⊥)
    → n ≤ length rows → place_in kind id rows ≡ None
told-none kind id rows n rising point other inside =
    ⊎_elim (λ less. place-none kind id rows
    (λ j d below. clear-at j d below less))
    (λ past. place-none kind id rows
    (λ j d below. clear-below kind id rows n point j d (omega arith)))
    (cases_lt n (length rows))
  where
    clear-at : (j : ℕ) (d : Row) → j < length rows → n < length rows → is_row kind id (get_or rows j d) ≡ false
    clear-at j d below less =
        clear-all kind id rows n (get_or rows n d) rising point less (get_or_default rows n d (get_or rows n d) less)
        (other less (get_or rows n d) (get_or_default rows n d (get_or rows n d) less)) j d below

-- places that are written back to a vector
pub written_back : (n : ℕ) (rows old : List Row) → n ≡ length old → length rows ≡ length old
    → take n (rows ++ drop (length rows) old) ≡ rows
written_back n rows old is size =
    ap (λ m. take m (rows ++ drop (length rows) old)) (is ∙ sym size) ∙ take_front rows (drop (length rows) old)
  where
    take_front : (xs ys : List Row) → take (length xs) (xs ++ ys) ≡ xs
    take_front [] ys = refl
    take_front (x ∷ xs) ys = ap (λ l. x ∷ l) (take_front xs ys)

-- The index of references, as they change.

sooner-raised : (at : ℕ) (o : Option ℕ) → sooner at (option_map (raised at) o) ≡ sooner at o
sooner-raised at None = refl
sooner-raised at (Some p) = grind (arith, nat_tests)

-- a test for a type and ID at a reference that has those of a row
pub key-test : (x : Reference) (kind : ℕ) (id : ℤ) → x.kind ≡ kind → x.stored.id ≡ id → (k : ℕ) (i : ℤ)
    → is_resource k i x ≡ (kind == k && int_eq id i)
key-test x kind id is-kind is-id k i =
    ap (λ m. m == k && int_eq x.stored.id i) is-kind ∙ ap (λ m. kind == k && int_eq m i) is-id

pub key-of : (kind : ℕ) (id : ℤ) (k : ℕ) (i : ℤ) → (kind == k && int_eq id i) ≡ true → (kind ≡ k) × (id ≡ i)
key-of kind id k i e =
    let two = and_parts (kind == k) (int_eq id i) e in
    ((Decides-eqb kind k).0 two.0, (Decides-int_eq id i).0 two.1)

pub index-entered : (test : ℕ → ℤ → Reference → Bool) (rows mid new : List Row) (row : Row) (references : List Reference)
    (x : Reference) → row.place ≤ length references → IsAt test row.kind row.key x → IsIndex test rows references
    → ((k : ℕ) (i : ℤ) → place_in k i mid ≡ option_map (raised row.place) (place_in k i rows)) → IsRising new
    → IsToldAs row.kind row.key (sooner row.place (place_in row.kind row.key mid)) mid new
    → IsIndex test new (insert references row.place x)
index-entered test rows mid new row references x inside own index gap rising told = record {
  rising = rising;
  tells = λ k i. told k i ∙ cases k i (row.kind == k && int_eq row.key i) refl
      ∙ sym (first-insert (test k i) references row.place x inside
      ∙ ap (λ t. entered t row.place (first_place (test k i) references)) (own k i));
}
  where
    moved-all : (k : ℕ) (i : ℤ) → place_in k i mid ≡ option_map (raised row.place) (first_place (test k i) references)
    moved-all k i = gap k i ∙ ap (option_map (raised row.place)) (index.tells k i)

    cases : (k : ℕ) (i : ℤ) (t : Bool) → (row.kind == k && int_eq row.key i) ≡ t
        → cond t (sooner row.place (place_in row.kind row.key mid)) (place_in k i mid)
        ≡ entered t row.place (first_place (test k i) references)
    cases k i true is =
        ap (sooner row.place) (sym (told-same k i row mid is) ∙ moved-all k i)
        ∙ sooner-raised row.place (first_place (test k i) references)
    cases k i false is = moved-all k i

-- a reference that is put in and has no row
pub index-passed : (test : ℕ → ℤ → Reference → Bool) (rows new : List Row) (at : ℕ) (references : List Reference)
    (x : Reference) → at ≤ length references → IsRowOf test None x → IsIndex test rows references
    → ((k : ℕ) (i : ℤ) → place_in k i new ≡ option_map (raised at) (place_in k i rows)) → IsRising new
    → IsIndex test new (insert references at x)
index-passed test rows new at references x inside none index gap rising = record {
  rising = rising;
  tells = λ k i. gap k i ∙ ap (option_map (raised at)) (index.tells k i)
      ∙ sym (first-insert (test k i) references at x inside
      ∙ ap (λ t. entered t at (first_place (test k i) references)) (none k i));
}

-- each place that an index tells is inside
pub index-within : (test : ℕ → ℤ → Reference → Bool) (rows : List Row) (references : List Reference) (n : ℕ)
    → length references ≡ n → IsIndex test rows references → IsWithin n rows
index-within test rows references n size index k i =
    subst (λ o. IfSome o (λ p. p < n)) (sym (index.tells k i))
    (subst (λ (m : ℕ). IfSome (first_place (test k i) references) (λ p. p < m)) size (first-within (test k i) references))

pub index-left : (test : ℕ → ℤ → Reference → Bool) (rows mid new : List Row) (row : Row) (first : Option ℕ)
    (references : List Reference) (x : Reference) → slice_get references row.place ≡ Some x
    → IsAt test row.kind row.key x → first ≡ first_place (test row.kind row.key) (remove references row.place)
    → IsIndex test rows references → mid ≡ map (moved (lowered row.place)) rows → IsRising new
    → IsToldAs row.kind row.key first mid new → IsIndex test new (remove references row.place)
index-left test rows mid new row first references x there own is index gap rising told = record {
  rising = rising;
  tells = λ k i. told k i ∙ cases k i (row.kind == k && int_eq row.key i) refl;
}
  where
    cases : (k : ℕ) (i : ℤ) (t : Bool) → (row.kind == k && int_eq row.key i) ≡ t
        → cond t first (place_in k i mid) ≡ first_place (test k i) (remove references row.place)
    cases k i true e =
        let key = key-of row.kind row.key k i e in
        is ∙ ap (λ m. first_place (test m row.key) (remove references row.place)) key.0
        ∙ ap (λ m. first_place (test k m) (remove references row.place)) key.1
    cases k i false e =
        ap (place_in k i) gap ∙ place-moved (lowered row.place) k i rows
        ∙ ap (option_map (lowered row.place)) (index.tells k i)
        ∙ sym (first-remove (test k i) references row.place x there (own k i ∙ e))

-- a reference that is taken out and has no row
pub index-gone : (test : ℕ → ℤ → Reference → Bool) (rows new : List Row) (at : ℕ) (references : List Reference)
    (x : Reference) → slice_get references at ≡ Some x → IsRowOf test None x → IsIndex test rows references
    → new ≡ map (moved (lowered at)) rows → IsIndex test new (remove references at)
index-gone test rows new at references x there none index gap = record {
  rising = subst IsRising (sym gap) (rising-moved (lowered at) rows index.rising);
  tells = λ k i. ap (place_in k i) gap ∙ place-moved (lowered at) k i rows
      ∙ ap (option_map (lowered at)) (index.tells k i)
      ∙ sym (first-remove (test k i) references at x there (none k i));
}

-- a reference that has its place among the rows
pub told-there : (test : ℕ → ℤ → Reference → Bool) (rows : List Row) (references : List Reference) (at : ℕ)
    (x : Reference) (kind : ℕ) (id : ℤ) → IsIndex test rows references → slice_get references at ≡ Some x
    → IsAt test kind id x → place_in kind id rows ≢ None
told-there test rows references at x kind id index there own none =
    first-there (test kind id) references at x there (own kind id ∙ same-key kind id) (sym (index.tells kind id) ∙ none)
  where
    same-key : (kind : ℕ) (id : ℤ) → (kind == kind && int_eq id id) ≡ true
    same-key kind id =
        ap (λ t. t && int_eq id id) ((Decides-eqb kind kind).1 refl) ∙ (Decides-int_eq id id).1 refl

pub index-renamed : (test : ℕ → ℤ → Reference → Bool) (rows mid new : List Row) (row : Row) (id : ℤ) (first : Option ℕ)
    (references : List Reference) (old x : Reference) → slice_get references row.place ≡ Some old
    → IsAt test row.kind id old → IsAt test row.kind row.key x → (row.key ≡ id → ⊥)
    → first ≡ first_place (test row.kind id) (slice_set references row.place x) → IsIndex test rows references
    → IsToldAs row.kind id first rows mid → IsRising new
    → IsToldAs row.kind row.key (sooner row.place (place_in row.kind row.key mid)) mid new
    → IsIndex test new (slice_set references row.place x)
index-renamed test rows mid new row id first references old x there was own apart is index let-go rising told = record {
  rising = rising;
  tells = λ k i. told k i ∙ cases k i (row.kind == k && int_eq row.key i) (row.kind == k && int_eq id i) refl refl;
}
  where
    set : (k : ℕ) (i : ℤ) → (row.kind == k && int_eq id i) ≡ false → first_place (test k i) (slice_set references row.place x)
        ≡ replaced_at (row.kind == k && int_eq row.key i) row.place (first_place (test k i) references)
    set k i other =
        first-set (test k i) references row.place old x there (was k i ∙ other)
        ∙ ap (λ t. replaced_at t row.place (first_place (test k i) references)) (own k i)

    stays : (k : ℕ) (i : ℤ) → (row.kind == k && int_eq id i) ≡ false
        → place_in k i mid ≡ first_place (test k i) references
    stays k i other =
        let-go k i ∙ ap (λ t. cond t first (place_in k i rows)) other ∙ index.tells k i

    cases : (k : ℕ) (i : ℤ) (t u : Bool) → (row.kind == k && int_eq row.key i) ≡ t → (row.kind == k && int_eq id i) ≡ u
        → cond t (sooner row.place (place_in row.kind row.key mid)) (place_in k i mid)
        ≡ first_place (test k i) (slice_set references row.place x)
    cases k i true true here other =
        absurd (apart ((key-of row.kind row.key k i here).1 ∙ sym (key-of row.kind id k i other).1))
    cases k i true false here other =
        ap (sooner row.place) (sym (told-same k i row mid here) ∙ stays k i other)
        ∙ sym (set k i other
        ∙ ap (λ t. replaced_at t row.place (first_place (test k i) references)) here)
    cases k i false true here other =
        let key = key-of row.kind id k i other in
        let-go k i ∙ ap (λ t. cond t first (place_in k i rows)) other ∙ is
        ∙ ap (λ m. first_place (test m id) (slice_set references row.place x)) key.0
        ∙ ap (λ m. first_place (test k m) (slice_set references row.place x)) key.1
    cases k i false false here other =
        stays k i other
        ∙ sym (set k i other
        ∙ ap (λ t. replaced_at t row.place (first_place (test k i) references)) here)

-- a reference that had no row, and has one
pub index-found : (test : ℕ → ℤ → Reference → Bool) (rows new : List Row) (row : Row) (references : List Reference)
    (old x : Reference) → slice_get references row.place ≡ Some old → IsRowOf test None old
    → IsAt test row.kind row.key x → IsIndex test rows references → IsRising new
    → IsToldAs row.kind row.key (sooner row.place (place_in row.kind row.key rows)) rows new
    → IsIndex test new (slice_set references row.place x)
index-found test rows new row references old x there none own index rising told = record {
  rising = rising;
  tells = λ k i. told k i ∙ cases k i (row.kind == k && int_eq row.key i) refl
      ∙ sym (first-set (test k i) references row.place old x there (none k i)
      ∙ ap (λ t. replaced_at t row.place (first_place (test k i) references)) (own k i));
}
  where
    cases : (k : ℕ) (i : ℤ) (t : Bool) → (row.kind == k && int_eq row.key i) ≡ t
        → cond t (sooner row.place (place_in row.kind row.key rows)) (place_in k i rows)
        ≡ replaced_at t row.place (first_place (test k i) references)
    cases k i true here = ap (sooner row.place) (sym (told-same k i row rows here) ∙ index.tells k i)
    cases k i false other = index.tells k i

-- a reference that is changed, but passes for the types and keys that it passed for
pub index-alike : (test : ℕ → ℤ → Reference → Bool) (rows : List Row) (references : List Reference) (at : ℕ)
    (old x : Reference) → slice_get references at ≡ Some old → ((k : ℕ) (i : ℤ) → test k i x ≡ test k i old)
    → IsIndex test rows references → IsIndex test rows (slice_set references at x)
index-alike test rows references at old x there alike index = record {
  rising = index.rising;
  tells = λ k i. index.tells k i ∙ sym (first-alike (test k i) references at old x there (alike k i));
}

one-more : (refs : List StoredReference) (n : ℕ) (r : Reference) → slice_get (map view_reference refs) n ≡ Some r
    → map view_reference (take (suc n) refs) ≡ map view_reference (take n refs) ++ r ∷ []
one-more [] n r e = cc
one-more (x ∷ refs) zero r e = let is : view_reference x ≡ r = cc in ap (λ l. l ∷ []) is
one-more (x ∷ refs) (suc n) r e = ap (λ l. view_reference x ∷ l) (one-more refs n r e)

-- the row of one reference more
pub told-more : (refs : List StoredReference) (n : ℕ) (rows : List Row) (row : Row) → n < length refs
    → IfSome (slice_get (map view_reference refs) n)
    (λ r. row ≡ (let x : Row = record { kind = r.kind; key = r.stored.id; place = n } in x))
    → ((k : ℕ) (i : ℤ) → place_in k i rows ≡ first_place (is_resource k i) (map view_reference (take n refs)))
    → (k : ℕ) (i : ℤ) → place_in k i (rows ++ row ∷ []) ≡ first_place (is_resource k i) (map view_reference (take (n + 1) refs))
told-more refs n rows row inside is told k i =
    cases (slice_get (map view_reference refs) n) refl is
  where
    cases : (o : Option Reference) → slice_get (map view_reference refs) n ≡ o
        → IfSome o (λ r. row ≡ (let x : Row = record { kind = r.kind; key = r.stored.id; place = n } in x))
        → place_in k i (rows ++ row ∷ []) ≡ first_place (is_resource k i) (map view_reference (take (n + 1) refs))
    cases None e is = absurd (get-inside (map view_reference refs) n (subst (λ m. n < m) (sym (length-map refs view_reference)) inside) e)
    cases (Some r) e is =
        let size : length (map view_reference (take n refs)) ≡ n =
        length-map (take n refs) view_reference ∙ length-take-le n refs (omega arith) in
        place-push k i rows row
        ∙ ap (λ (x : Row). later (place_in k i rows) (is_row k i x) x.place) is
        ∙ ap (λ o. later o (is_resource k i r) n) (told k i)
        ∙ ap (later (first_place (is_resource k i) (map view_reference (take n refs))) (is_resource k i r)) (sym size)
        ∙ sym (first-push (is_resource k i) (map view_reference (take n refs)) r)
        ∙ ap (first_place (is_resource k i)) (sym ((let next : n + 1 ≡ suc n = omega arith in
        ap (λ m. map view_reference (take m refs)) next) ∙ one-more refs n r e))

-- the row by name of a reference is its own
pub row-named : (place : ℕ) (r : Reference) → IsRowOf is_printed (named_row place r.kind r.stored.name) r
row-named place r k i = cases r.stored.name
  where
    none : (t : Bool) → t && false ≡ false
    none true = refl
    none false = refl

    cases : (o : Option (List ℕ)) → r.kind == k && has_print i o ≡ is_own (named_row place r.kind o) k i
    cases None = none (r.kind == k)
    cases (Some name) = refl

later-none : (o : Option ℕ) (n : ℕ) → o ≡ later o false n
later-none None n = refl
later-none (Some p) n = refl

place-noted : (k : ℕ) (i : ℤ) (rows : List Row) (row : Option Row) (n : ℕ) → IfSome row (λ r. r.place ≡ n)
    → place_in k i (rows ++ rows_in row) ≡ later (place_in k i rows) (is_own row k i) n
place-noted k i rows None n there = ap (place_in k i) (append-nil rows) ∙ later-none (place_in k i rows) n
place-noted k i rows (Some row) n there =
    place-push k i rows row ∙ ap (later (place_in k i rows) (is_own (Some row) k i)) there

pub named-place : (place kind : ℕ) (name : Option (List ℕ)) → IfSome (named_row place kind name) (λ r. r.place ≡ place)
named-place place kind None = tt
named-place place kind (Some name) = refl

pub named-kind : (place kind : ℕ) (name : Option (List ℕ)) → IfSome (named_row place kind name) (λ r. r.kind ≡ kind)
named-kind place kind None = tt
named-kind place kind (Some name) = refl

-- the row by name of one reference more
pub named-more : (refs : List StoredReference) (n : ℕ) (rows : List Row) (row : Option Row) → n < length refs
    → IfSome (slice_get (map view_reference refs) n) (λ r. row ≡ named_row n r.kind r.stored.name)
    → ((k : ℕ) (i : ℤ) → place_in k i rows ≡ first_place (is_printed k i) (map view_reference (take n refs)))
    → (k : ℕ) (i : ℤ)
    → place_in k i (rows ++ rows_in row) ≡ first_place (is_printed k i) (map view_reference (take (n + 1) refs))
named-more refs n rows row inside is told k i =
    cases (slice_get (map view_reference refs) n) refl is
  where
    cases : (o : Option Reference) → slice_get (map view_reference refs) n ≡ o
        → IfSome o (λ r. row ≡ named_row n r.kind r.stored.name)
        → place_in k i (rows ++ rows_in row) ≡ first_place (is_printed k i) (map view_reference (take (n + 1) refs))
    cases None e is = absurd (get-inside (map view_reference refs) n (subst (λ m. n < m) (sym (length-map refs view_reference)) inside) e)
    cases (Some r) e is =
        let size : length (map view_reference (take n refs)) ≡ n =
        length-map (take n refs) view_reference ∙ length-take-le n refs (omega arith) in
        ap (λ (o : Option Row). place_in k i (rows ++ rows_in o)) is
        ∙ place-noted k i rows (named_row n r.kind r.stored.name) n (named-place n r.kind r.stored.name)
        ∙ ap (λ t. later (place_in k i rows) t n) (sym (row-named n r k i))
        ∙ ap (λ o. later o (is_printed k i r) n) (told k i)
        ∙ ap (later (first_place (is_printed k i) (map view_reference (take n refs))) (is_printed k i r)) (sym size)
        ∙ sym (first-push (is_printed k i) (map view_reference (take n refs)) r)
        ∙ ap (first_place (is_printed k i)) (sym ((let next : n + 1 ≡ suc n = omega arith in
        ap (λ m. map view_reference (take m refs)) next) ∙ one-more refs n r e))

-- a row that is put in, as a vector has it
pub put-rising : (old seen new : List Row) (at : ℕ) (row : Row) (done : Bool) → seen ≡ old
    → new ≡ cond done (insert old at row) old → at ≤ length seen → (IsRising seen → Below row.kind row.key seen at)
    → IsRising old → IsRising new
put-rising old seen new at row done same is inside point rising =
    subst IsRising (sym is) (cases done)
  where
    cases : (t : Bool) → IsRising (cond t (insert old at row) old)
    cases true =
        let where-to = subst (λ (l : List Row). (at ≤ length l) × (IsRising l → Below row.kind row.key l at)) same (inside, point) in
        rising-insert old at row where-to.0 (where-to.1 rising) rising
    cases false = rising

pub put-told : (old seen new : List Row) (at : ℕ) (row : Row) (done : Bool) → seen ≡ old
    → new ≡ cond done (insert old at row) old → at ≤ length seen → (IsRising seen → Below row.kind row.key seen at)
    → done ≡ true → IsRising old → IsToldAs row.kind row.key (Some row.place) old new
put-told old seen new at row done same is inside point sure rising =
    let where-to = subst (λ (l : List Row). (at ≤ length l) × (IsRising l → Below row.kind row.key l at)) same (inside, point) in
    subst (IsToldAs row.kind row.key (Some row.place) old)
    (sym (is ∙ ap (λ t. cond t (insert old at row) old) sure))
    (place-insert old at row where-to.0 (clear-below row.kind row.key old at (where-to.1 rising)))

-- a row that is set, as it was read before
pub set-rising : (rows : List Row) (at : ℕ) (row read : Row) → at < length rows → read ≡ get_or rows at read
    → is_row row.kind row.key read ≡ true → IsRising rows → IsRising (slice_set rows at row)
set-rising rows at row read inside is here rising =
    rising-set rows at row inside
    (ap (is_row row.kind row.key) (get_or_default rows at row read inside ∙ sym is) ∙ here) rising

pub set-told : (rows seen : List Row) (at : ℕ) (row read : Row) → seen ≡ rows → at < length rows
    → read ≡ get_or rows at read → is_row row.kind row.key read ≡ true → (IsRising seen → Below row.kind row.key seen at)
    → IsRising rows → IsToldAs row.kind row.key (Some row.place) rows (slice_set rows at row)
set-told rows seen at row read same inside is here point rising =
    let there = subst (λ (l : List Row). IsRising l → Below row.kind row.key l at) same point in
    place-set rows at row inside (clear-below row.kind row.key rows at (there rising))
    (ap (is_row row.kind row.key) (get_or_default rows at row read inside ∙ sym is) ∙ here)

-- where the first row at or behind those of a type and ID is of another, nothing is told of them
pub never-there : (rows seen : List Row) (at : ℕ) (row : Row) → seen ≡ rows
    → (IsRising seen → Below row.kind row.key seen at)
    → ((at < length rows) → (r : Row) → r ≡ get_or rows at r → rank_of r ≡ rank row.kind row.key → ⊥) → at ≤ length seen
    → place_in row.kind row.key rows ≢ None → IsRising rows → ⊥
never-there rows seen at row same point other inside some rising =
    let where-to = subst (λ (l : List Row). (at ≤ length l) × (IsRising l → Below row.kind row.key l at)) same (inside, point) in
    some (told-none row.kind row.key rows at rising (where-to.1 rising) other where-to.0)

-- something is told where a search found it
pub told-some : (o : Option ℕ) (p : ℕ) (q : Option ℕ) → o ≡ q → o ≡ Some p → q ≢ None
told-some o p q told is none = some-none p (sym is ∙ told ∙ none)

-- a place that is told is the sooner one, or the new one is
pub kept-told : (rows : List Row) (row : Row) (o : Option ℕ) → o ≡ place_in row.kind row.key rows
    → sooner row.place o ≡ o → IsToldAs row.kind row.key (sooner row.place (place_in row.kind row.key rows)) rows rows
kept-told rows row o is first k i = cases (row.kind == k && int_eq row.key i) refl
  where
    cases : (t : Bool) → (row.kind == k && int_eq row.key i) ≡ t
        → place_in k i rows ≡ cond t (sooner row.place (place_in row.kind row.key rows)) (place_in k i rows)
    cases true here = told-same k i row rows here ∙ sym is ∙ sym first ∙ ap (sooner row.place) is
    cases false other = refl

pub new-told : (rows new : List Row) (row : Row) (o : Option ℕ) → o ≡ place_in row.kind row.key rows
    → sooner row.place o ≡ Some row.place → IsToldAs row.kind row.key (Some row.place) rows new
    → IsToldAs row.kind row.key (sooner row.place (place_in row.kind row.key rows)) rows new
new-told rows new row o is last told =
    subst (λ p. IsToldAs row.kind row.key p rows new) (sym last ∙ ap (sooner row.place) is) told

-- what was there is still told of, in other places
pub moved-there : (test : ℕ → ℤ → Reference → Bool) (f : ℕ → ℕ) (rows new : List Row) (references : List Reference)
    (at : ℕ) (x : Reference) (kind : ℕ) (id : ℤ) → new ≡ map (moved f) rows → IsIndex test rows references
    → slice_get references at ≡ Some x → IsAt test kind id x → place_in kind id new ≢ None
moved-there test f rows new references at x kind id is index there own none =
    some-moved (place_in kind id rows) (told-there test rows references at x kind id index there own)
    (sym (ap (place_in kind id) is ∙ place-moved f kind id rows) ∙ none)
  where
    some-moved : (o : Option ℕ) → o ≢ None → option_map f o ≡ None → ⊥
    some-moved None some e = some refl
    some-moved (Some p) some e = cc

-- the same index of the same references
pub index-same : (test : ℕ → ℤ → Reference → Bool) (rows new : List Row) (old refs : List Reference) → new ≡ rows
    → refs ≡ old → IsIndex test rows old → IsIndex test new refs
index-same test rows new old refs is same index =
    subst (λ (l : List Reference). IsIndex test new l) (sym same)
    (subst (λ (l : List Row). IsIndex test l old) (sym is) index)

-- a reference that is changed in its place, but passes for the types and keys that it passed for
pub index-set : (test : ℕ → ℤ → Reference → Bool) (f : Reference → Reference)
    → ((r : Reference) (k : ℕ) (i : ℤ) → test k i (f r) ≡ test k i r) → (rows : List Row) (m : Map)
    (old new : List Reference) (i : ℕ) → old ≡ m.references → i < length m.references
    → IfSome (slice_get old i) (λ r. new ≡ slice_set old i (f r)) → IsIndex test rows old → IsIndex test rows new
index-set test f keeps rows m old new i seen inside set index =
    cases (slice_get old i) refl (subst (λ (l : List Reference). i < length l) (sym seen) inside) set
  where
    cases : (o : Option Reference) → slice_get old i ≡ o → i < length old
        → IfSome o (λ r. new ≡ slice_set old i (f r)) → IsIndex test rows new
    cases None e inside set = absurd (get-inside old i inside e)
    cases (Some r) e inside set =
        subst (IsIndex test rows) (sym set) (index-alike test rows old i r (f r) e (keeps r) index)

-- the same of what is kept of a reference
pub index-seen_at : (test : ℕ → ℤ → Reference → Bool) (refs : List StoredReference) (i : ℕ) (x y : StoredReference)
    → i < length refs → x ≡ get_or refs i x
    → ((k : ℕ) (j : ℤ) → test k j (view_reference y) ≡ test k j (view_reference x)) → (rows : List Row)
    → IsIndex test rows (map view_reference refs) → IsIndex test rows (map view_reference (slice_set refs i y))
index-seen_at test refs i x y inside is same rows index =
    subst (IsIndex test rows) (sym (map-set view_reference refs i y))
    (index-alike test rows (map view_reference refs) i (view_reference x) (view_reference y)
    (slice_get-map view_reference refs i
    ∙ ap (option_map view_reference) (slice_get-get_or refs i x inside ∙ ap Some (sym is))) same index)

pub id-alike : (x y : Reference) → y.kind ≡ x.kind → y.stored.id ≡ x.stored.id → (k : ℕ) (i : ℤ)
    → is_resource k i y ≡ is_resource k i x
id-alike x y kind id k i = ap (λ m. m == k && int_eq y.stored.id i) kind ∙ ap (λ m. x.kind == k && int_eq m i) id

pub name-alike : (x y : Reference) → y.kind ≡ x.kind → y.stored.name ≡ x.stored.name → (k : ℕ) (i : ℤ)
    → is_printed k i y ≡ is_printed k i x
name-alike x y kind name k i =
    ap (λ m. m == k && has_print i y.stored.name) kind ∙ ap (λ m. x.kind == k && has_print i m) name

-- references that are stored anew
first-anew : (test : Reference → Bool)
    → ((bytes : Option (List ℕ)) (r : Reference) → test (stored_anew bytes r) ≡ test r)
    → (all : List (Option (List ℕ))) (references : List Reference)
    → first_place test (all_anew all references) ≡ first_place test references
first-anew test keeps [] references = refl
first-anew test keeps (bytes ∷ all) [] = refl
first-anew test keeps (bytes ∷ all) (r ∷ references) =
    first-cons test (stored_anew bytes r) (all_anew all references)
    ∙ ap (λ t. one_on t (first_place test (all_anew all references))) (keeps bytes r)
    ∙ ap (one_on (test r)) (first-anew test keeps all references) ∙ sym (first-cons test r references)

pub index-anew : (test : ℕ → ℤ → Reference → Bool)
    → ((k : ℕ) (i : ℤ) (bytes : Option (List ℕ)) (r : Reference) → test k i (stored_anew bytes r) ≡ test k i r)
    → (rows : List Row) (all : List (Option (List ℕ))) (references stored : List Reference)
    → IsIndex test rows references → stored ≡ all_anew all references → IsIndex test rows stored
index-anew test keeps rows all references stored index anew = record {
  rising = index.rising;
  tells = λ k i. index.tells k i ∙ sym (ap (first_place (test k i)) anew ∙ first-anew (test k i) (keeps k i) all references);
}

-- What the functions that keep an index say, where a file's references are changed.

-- a reference that is taken out
pub out-of-index : (rows new : List Row) (row : Row) (at : ℕ) (first : Option ℕ) (refs left : List Reference)
    → at < length refs → IfSome (slice_get refs at)
    (λ r. row ≡ (let x : Row = record { kind = r.kind; key = r.stored.id; place = at } in x)) → left ≡ remove refs at
    → first ≡ first_place (is_resource row.kind row.key) left
    → ((references : List Reference) (old : Reference) → slice_get references row.place ≡ Some old
    → IsAt is_resource row.kind row.key old
    → first ≡ first_place (is_resource row.kind row.key) (remove references row.place)
    → IsIndex is_resource rows references → IsIndex is_resource new (remove references row.place))
    → IsIndex is_resource rows refs → IsIndex is_resource new left
out-of-index rows new row at first refs left inside read gone told leaves index =
    cases (slice_get refs at) refl read
  where
    cases : (o : Option Reference) → slice_get refs at ≡ o
        → IfSome o (λ r. row ≡ (let x : Row = record { kind = r.kind; key = r.stored.id; place = at } in x))
        → IsIndex is_resource new left
    cases None e is = absurd (get-inside refs at inside e)
    cases (Some r) e is =
        let there : row.place ≡ at = ap (λ (x : Row). x.place) is in
        subst (IsIndex is_resource new) (ap (remove refs) there ∙ sym gone)
        (leaves refs r (ap (slice_get refs) there ∙ e)
        (key-test r row.kind row.key (sym (ap (λ (x : Row). x.kind) is)) (sym (ap (λ (x : Row). x.key) is)))
        (told ∙ ap (first_place (is_resource row.kind row.key)) (gone ∙ ap (remove refs) (sym there))) index)

-- a reference that gets another ID
pub renamed-in-index : (rows new : List Row) (row old : Row) (at : ℕ) (id own : ℤ) (text : List ℕ) (first : Option ℕ)
    (refs named : List Reference) → at < length refs → IfSome (slice_get refs at)
    (λ r. old ≡ (let x : Row = record { kind = r.kind; key = r.stored.id; place = at } in x))
    → IfSome (slice_get refs at) (λ r. named ≡ slice_set refs at (renamed id text r)) → row.kind ≡ old.kind
    → row.key ≡ id → row.place ≡ old.place → own ≡ old.key → first ≡ first_place (is_resource old.kind own) named
    → ((references : List Reference) (was now : Reference) → slice_get references row.place ≡ Some was
    → IsAt is_resource row.kind own was → IsAt is_resource row.kind row.key now
    → first ≡ first_place (is_resource row.kind own) (slice_set references row.place now)
    → IsIndex is_resource rows references → IsIndex is_resource new (slice_set references row.place now))
    → IsIndex is_resource rows refs → IsIndex is_resource new named
renamed-in-index rows new row old at id own text first refs named inside read set is-kind is-id is-place is-own told
    enters index = cases (slice_get refs at) refl read set
  where
    cases : (o : Option Reference) → slice_get refs at ≡ o
        → IfSome o (λ r. old ≡ (let x : Row = record { kind = r.kind; key = r.stored.id; place = at } in x))
        → IfSome o (λ r. named ≡ slice_set refs at (renamed id text r)) → IsIndex is_resource new named
    cases None e read set = absurd (get-inside refs at inside e)
    cases (Some r) e read set =
        let there : row.place ≡ at = is-place ∙ ap (λ (x : Row). x.place) read in
        let kind : row.kind ≡ r.kind = is-kind ∙ ap (λ (x : Row). x.kind) read in
        let changed = ap (λ n. slice_set refs n (renamed id text r)) there ∙ sym set in
        subst (IsIndex is_resource new) changed
        (enters refs r (renamed id text r) (ap (slice_get refs) there ∙ e)
        (key-test r row.kind own (sym kind) (sym (is-own ∙ ap (λ (x : Row). x.key) read)))
        (key-test (renamed id text r) row.kind row.key (sym kind) (sym is-id))
        (told ∙ ap (λ k. first_place (is_resource k own) named) (sym is-kind)
        ∙ ap (first_place (is_resource row.kind own)) (sym changed)) index)

-- a row by name that is given its place
pub row-placed : (at : ℕ) (r : Reference) (row placed : Option Row) → row ≡ named_row 0 r.kind r.stored.name
    → placed ≡ option_map (moved (λ p. at)) row → IsRowOf is_printed placed r
row-placed at r row placed is moved-to k i =
    row-named at r k i
    ∙ ap (λ o. is_own o k i) (sym (moved-to ∙ ap (option_map (moved (λ p. at))) is ∙ other r.stored.name))
  where
    other : (o : Option (List ℕ)) → option_map (moved (λ p. at)) (named_row 0 r.kind o) ≡ named_row at r.kind o
    other None = refl
    other (Some name) = refl

pub placed-there : (at : ℕ) (row placed : Option Row) → placed ≡ option_map (moved (λ p. at)) row
    → IfSome placed (λ r. r.place ≡ at)
placed-there at row placed is = subst (λ o. IfSome o (λ (r : Row). r.place ≡ at)) (sym is) (cases row)
  where
    cases : (o : Option Row) → IfSome (option_map (moved (λ p. at)) o) (λ r. r.place ≡ at)
    cases None = tt
    cases (Some r) = refl

-- a reference that is taken out, with the row that it had, if it had one
pub out-of-rows : (test : ℕ → ℤ → Reference → Bool) (own : Reference → Option Row)
    → ((r : Reference) → IsRowOf test (own r) r) → (rows new : List Row) (row : Option Row) (at : ℕ)
    (refs left seen : List Reference) → at < length refs → IfSome (slice_get refs at) (λ r. row ≡ own r)
    → left ≡ remove refs at → seen ≡ left
    → ((references : List Reference) (old : Reference) → slice_get references at ≡ Some old
    → IsRowOf test row old → seen ≡ remove references at
    → IsIndex test rows references → IsIndex test new (remove references at))
    → IsIndex test rows refs → IsIndex test new left
out-of-rows test own is-own rows new row at refs left seen inside read gone same leaves index =
    cases (slice_get refs at) refl read
  where
    cases : (o : Option Reference) → slice_get refs at ≡ o → IfSome o (λ r. row ≡ own r) → IsIndex test new left
    cases None e is = absurd (get-inside refs at inside e)
    cases (Some r) e is =
        subst (IsIndex test new) (sym gone)
        (leaves refs r e (subst (λ o. IsRowOf test o r) (sym is) (is-own r)) (same ∙ gone) index)

pub read-there : (own : Reference → Option Row) (at : ℕ) → ((r : Reference) → IfSome (own r) (λ x. x.place ≡ at))
    → (row : Option Row) (refs : List Reference) → at < length refs → IfSome (slice_get refs at) (λ r. row ≡ own r)
    → IfSome row (λ x. x.place ≡ at)
read-there own at there row refs inside read = cases (slice_get refs at) refl read
  where
    cases : (o : Option Reference) → slice_get refs at ≡ o → IfSome o (λ r. row ≡ own r)
        → IfSome row (λ x. x.place ≡ at)
    cases None e is = absurd (get-inside refs at inside e)
    cases (Some r) e is = subst (λ o. IfSome o (λ (x : Row). x.place ≡ at)) (sym is) (there r)

-- a reference that may get another name
name-stays : (text : List ℕ) (old : Option (List ℕ)) → name_by text old ≡ None → old ≡ None
name-stays [] old e = e
name-stays (b ∷ text) old e = cc

pub renamed-in-names : (rows new : List Row) (row : Option Row) (at : ℕ) (id : ℤ) (text : List ℕ)
    (refs named seen : List Reference) → at < length refs
    → IfSome (slice_get refs at) (λ r. row ≡ named_row at r.kind r.stored.name)
    → IfSome (slice_get refs at) (λ r. named ≡ slice_set refs at (renamed id text r)) → seen ≡ named
    → ((references : List Reference) (was now : Reference) → slice_get references at ≡ Some was
    → row ≡ named_row at was.kind was.stored.name → now.kind ≡ was.kind
    → (now.stored.name ≡ None → was.stored.name ≡ None) → seen ≡ slice_set references at now
    → IsIndex is_printed rows references → IsIndex is_printed new (slice_set references at now))
    → IsIndex is_printed rows refs → IsIndex is_printed new named
renamed-in-names rows new row at id text refs named seen inside read set same tells index =
    cases (slice_get refs at) refl read set
  where
    cases : (o : Option Reference) → slice_get refs at ≡ o → IfSome o (λ r. row ≡ named_row at r.kind r.stored.name)
        → IfSome o (λ r. named ≡ slice_set refs at (renamed id text r)) → IsIndex is_printed new named
    cases None e read set = absurd (get-inside refs at inside e)
    cases (Some r) e read set =
        subst (IsIndex is_printed new) (sym set)
        (tells refs r (renamed id text r) e read refl (name-stays text r.stored.name) (same ∙ set) index)

-- what is told of a reference that may have got another name
pub read-back : (references : List Reference) (at : ℕ) (was new : Reference) → slice_get references at ≡ Some was
    → slice_get (slice_set references at new) at ≡ Some new
read-back [] at was new e = cc
read-back (r ∷ references) zero was new e = refl
read-back (r ∷ references) (suc at) was new e = read-back references at was new e

pub read-new : (seen references : List Reference) (at : ℕ) (was new : Reference) (row : Option Row)
    → slice_get references at ≡ Some was → seen ≡ slice_set references at new
    → IfSome (slice_get seen at) (λ r. row ≡ named_row at r.kind r.stored.name)
    → row ≡ named_row at new.kind new.stored.name
read-new seen references at was new row there same read =
    subst (λ o. IfSome o (λ (r : Reference). row ≡ named_row at r.kind r.stored.name))
    (ap (λ l. slice_get l at) same ∙ read-back references at was new there) read

no-name : (at kind : ℕ) (o : Option (List ℕ)) → named_row at kind o ≡ None → o ≡ None
no-name at kind None e = refl
no-name at kind (Some name) e = cc

nowhere : (r : Reference) → r.stored.name ≡ None → (k : ℕ) (i : ℤ) → is_printed k i r ≡ false
nowhere r e k i = row-named 0 r k i ∙ ap (λ o. is_own (named_row 0 r.kind o) k i) e

pub name-none : (rows : List Row) (references : List Reference) (at : ℕ) (was new : Reference) (row : Option Row)
    → slice_get references at ≡ Some was → row ≡ named_row at new.kind new.stored.name → row ≡ None
    → (new.stored.name ≡ None → was.stored.name ≡ None) → IsIndex is_printed rows references
    → IsIndex is_printed rows (slice_set references at new)
name-none rows references at was new row there is none stays index =
    let no : new.stored.name ≡ None = no-name at new.kind new.stored.name (sym is ∙ none) in
    index-alike is_printed rows references at was new there
    (λ k i. nowhere new no k i ∙ sym (nowhere was (stays no) k i)) index

row-is : (at kind : ℕ) (o : Option (List ℕ)) (row : Row) → Some row ≡ named_row at kind o
    → (row.place ≡ at) × (row.kind ≡ kind)
row-is at kind None row e = cc
row-is at kind (Some name) row e =
    let is : row ≡ (let x : Row = record { kind = kind; key = print name; place = at } in x) = cc in
    (ap (λ (r : Row). r.place) is, ap (λ (r : Row). r.kind) is)

pub name-some : (rows new : List Row) (seen references : List Reference) (at : ℕ) (was now : Reference)
    (row : Row) (old : Option Row) → slice_get references at ≡ Some was → old ≡ named_row at was.kind was.stored.name
    → now.kind ≡ was.kind → Some row ≡ named_row at now.kind now.stored.name → seen ≡ slice_set references at now
    → ((references : List Reference) (was now : Reference) → slice_get references row.place ≡ Some was
    → IfSome old (λ r. r.kind ≡ row.kind) → IsRowOf is_printed old was → IsAt is_printed row.kind row.key now
    → seen ≡ slice_set references row.place now → IsIndex is_printed rows references
    → IsIndex is_printed new (slice_set references row.place now))
    → IsIndex is_printed rows references → IsIndex is_printed new (slice_set references at now)
name-some rows new seen references at was now row old there is-old same-kind is same enters index =
    let two = row-is at now.kind now.stored.name row is in
    let place = two.0 in
    let kind : was.kind ≡ row.kind = sym (two.1 ∙ same-kind) in
    subst (λ n. IsIndex is_printed new (slice_set references n now)) place
    (enters references was now (ap (slice_get references) place ∙ there)
    (subst (λ (k : ℕ). IfSome old (λ r. r.kind ≡ k)) kind
    (subst (λ o. IfSome o (λ (r : Row). r.kind ≡ was.kind)) (sym is-old) (named-kind at was.kind was.stored.name)))
    (subst (λ o. IsRowOf is_printed o was) (sym is-old) (row-named at was))
    (subst (λ o. IsRowOf is_printed o now) (sym is) (row-named at now))
    (same ∙ ap (λ n. slice_set references n now) (sym place)) index)
