use Rattle.fork_edits.proofs.Cited.{◌≡◌, ℕ, ◌+◌, ◌<◌, Bool, true, false, cond, List, [], ◌∷◌, ◌++◌, map, length, Option, Some, None, refl}
use Rattle.fork_edits.proofs.Cited.{sym, ◌∙◌, ap, append_assoc, append-nil, drop, get_or, arith, ℤ, option_map, is_some, unwrap_or, ◌&&◌}
use Rattle.fork_edits.proofs.Cited.{◌==◌, not, find, filter, list_all, int_eq, eqb-true, and_parts, nat_tests, Decides-int_eq, map-append}
use Rattle.fork_edits.proofs.Cited.{filter-append, rest-next, are_distinct, Ref, Group, Content, distinct, joined, put, joined-push, Row}
use Rattle.fork_edits.proofs.Cited.{row, group_rows, rows, is_at, found, others, is_same, alone, unmatched, replaced_by, both, row_group}
use Rattle.fork_edits.proofs.Cited.{with_rows, with_both, or_other, clash, view_row}
use Rattle.fork_edits.specs.declared.resources.Row.{Row as StoredRow}
use Rattle.fork_edits.proofs.Finding.{find_append}
use Rattle.fork_edits.proofs.Keeping.{all_others}
use Rattle.fork_edits.proofs.Pairing.{all_alone, first_taken}
use Rattle.fork_edits.proofs.Queues.{first_found, none_found, apart_left}

-- The resources of two contents, gathered in one.

-- a walk over the first resources goes on
pub replaced_further : (olds : List StoredRow) (i : ℕ) (old : StoredRow) (rest : List Row) (mid new total : List Row)
    → i < length olds → old ≡ get_or olds i old
    → new ≡ mid ++ unwrap_or (find (is_same (view_row old)) rest) (view_row old) ∷ []
    → mid ++ replaced_by (map view_row (drop i olds)) rest ≡ total
    → new ++ replaced_by (map view_row (drop (i + 1) olds)) (others (is_same (view_row old)) rest) ≡ total
replaced_further olds i old rest mid new total inside is pushed told =
    let here : Row = unwrap_or (find (is_same (view_row old)) rest) (view_row old) in
    let after : List Row = replaced_by (map view_row (drop (i + 1) olds)) (others (is_same (view_row old)) rest) in
    ap (λ l. l ++ after) pushed ∙ append_assoc mid (here ∷ []) after
    ∙ ap (λ l. mid ++ replaced_by (map view_row l) rest) (sym (rest-next olds i old inside is)) ∙ told

-- a walk over the second resources goes on
pub unmatched_further : (news : List StoredRow) (i : ℕ) (s : StoredRow) (rest : List Row) (mid new total : List Row)
    → i < length news → s ≡ get_or news i s → new ≡ mid ++ alone (view_row s) (find (is_same (view_row s)) rest)
    → mid ++ unmatched (map view_row (drop i news)) rest ≡ total
    → new ++ unmatched (map view_row (drop (i + 1) news)) (others (is_same (view_row s)) rest) ≡ total
unmatched_further news i s rest mid new total inside is pushed told =
    let here : List Row = alone (view_row s) (find (is_same (view_row s)) rest) in
    let after : List Row = unmatched (map view_row (drop (i + 1) news)) (others (is_same (view_row s)) rest) in
    ap (λ l. l ++ after) pushed ∙ append_assoc mid here after
    ∙ ap (λ l. mid ++ unmatched (map view_row l) rest) (sym (rest-next news i s inside is)) ∙ told

-- a search for what stands in both goes on, and ends
clash_past : (x : Row) (xs news : List Row) → find (is_same x) news ≡ None → clash (x ∷ xs) news ≡ clash xs news
clash_past x xs news none = rw none refl

clash_first : (x : Row) (xs news : List Row) → is_some (find (is_same x) news) ≡ true → clash (x ∷ xs) news ≡ Some x
clash_first x xs news some = rw some refl

pub clash_further : (olds : List StoredRow) (i : ℕ) (old : StoredRow) (news : List Row) (total : Option Row)
    → i < length olds → old ≡ get_or olds i old → find (is_same (view_row old)) news ≡ None
    → clash (map view_row (drop i olds)) news ≡ total → clash (map view_row (drop (i + 1) olds)) news ≡ total
clash_further olds i old news total inside is none told =
    sym (clash_past (view_row old) (map view_row (drop (i + 1) olds)) news none)
    ∙ ap (λ l. clash (map view_row l) news) (sym (rest-next olds i old inside is)) ∙ told

pub clash_here : (olds : List StoredRow) (i : ℕ) (old : StoredRow) (news : List Row) (total : Option Row)
    → i < length olds → old ≡ get_or olds i old → is_some (find (is_same (view_row old)) news) ≡ true
    → clash (map view_row (drop i olds)) news ≡ total → Some (view_row old) ≡ total
clash_here olds i old news total inside is some told =
    sym (clash_first (view_row old) (map view_row (drop (i + 1) olds)) news some)
    ∙ ap (λ l. clash (map view_row l) news) (sym (rest-next olds i old inside is)) ∙ told

-- what was found, and what was not, as values
pub found_some : (o : Option StoredRow) (p : Option Row) → option_map view_row o ≡ p → is_some o ≡ true
    → is_some p ≡ true
found_some (Some r) p e some = ap is_some (sym e)
found_some None p e some = cc

pub found_none : (o : Option StoredRow) (p : Option Row) → option_map view_row o ≡ p → is_some o ≡ false → p ≡ None
found_none (Some r) p e none = cc
found_none None p e none = sym e

-- resources put in one after another
pub rows_further : (xs : List StoredRow) (i : ℕ) (x : StoredRow) (old new total : List Group) → i < length xs
    → x ≡ get_or xs i x → new ≡ put (row_group (view_row x)) old → with_rows (map view_row (drop i xs)) old ≡ total
    → with_rows (map view_row (drop (i + 1) xs)) new ≡ total
rows_further xs i x old new total inside is put told =
    ap (with_rows (map view_row (drop (i + 1) xs))) put
    ∙ ap (λ l. with_rows (map view_row l) old) (sym (rest-next xs i x inside is)) ∙ told

-- no resource of a type is in groups of other types
none_of_kind : (k j : ℕ) (id : ℤ) (refs : List Ref) → not (j == k) ≡ true → filter (is_at k id) (map (row j) refs) ≡ []
none_of_kind k j id [] other = refl
none_of_kind k j id (r ∷ refs) other = cases (j == k) other (none_of_kind k j id refs other)
  where
    cases : (t : Bool) → not t ≡ true → filter (is_at k id) (map (row j) refs) ≡ []
        → cond (t && int_eq r.id id) (row j r ∷ filter (is_at k id) (map (row j) refs)) (filter (is_at k id) (map (row j) refs)) ≡ []
    cases true h e = cc
    cases false h e = e

none_in : (k : ℕ) (id : ℤ) (groups : List Group) → list_all (λ j. not (j == k)) (map (λ (g : Group). g.kind) groups) ≡ true
    → filter (is_at k id) (rows groups) ≡ []
none_in k id [] apart = refl
none_in k id (g ∷ groups) apart =
    let each = and_parts (not (g.kind == k)) (list_all (λ j. not (j == k)) (map (λ (h : Group). h.kind) groups)) apart in
    filter-append (is_at k id) (group_rows g) (rows groups)
    ∙ ap (λ l. l ++ filter (is_at k id) (rows groups)) (none_of_kind k g.kind id g.refs each.0) ∙ none_in k id groups each.1

-- a resource that is put in is the last of its type and ID
put_filter : (kind : ℕ) (id : ℤ) (x : Row) (groups : List Group)
    → are_distinct (map (λ (g : Group). g.kind) groups) ≡ true
    → filter (is_at kind id) (rows (put (row_group x) groups))
    ≡ filter (is_at kind id) (rows groups) ++ filter (is_at kind id) (x ∷ [])
put_filter kind id x [] different = refl
put_filter kind id x (g ∷ groups) different =
    let each = and_parts (list_all (λ j. not (j == g.kind)) (map (λ (h : Group). h.kind) groups))
    (are_distinct (map (λ (h : Group). h.kind) groups)) different in
    cases (g.kind == x.kind) refl each.0 (put_filter kind id x groups each.1)
  where
    p : Row → Bool
    p = is_at kind id

    swapped : (a rest : List Row) → (is_at kind id x ≡ true → rest ≡ [])
        → a ++ filter (is_at kind id) (x ∷ []) ++ rest ≡ a ++ rest ++ filter (is_at kind id) (x ∷ [])
    swapped a rest none = by_test (is_at kind id x) none
      where
        by_test : (t : Bool) → (t ≡ true → rest ≡ []) → a ++ cond t (x ∷ []) [] ++ rest ≡ a ++ rest ++ cond t (x ∷ []) []
        by_test true e = rw (e refl) (append-nil (a ++ x ∷ []) ∙ ap (λ l. l ++ x ∷ []) (sym (append-nil a)))
        by_test false e = ap (λ l. l ++ rest) (append-nil a) ∙ sym (append-nil (a ++ rest))

    cases : (t : Bool) → (g.kind == x.kind) ≡ t
        → list_all (λ j. not (j == g.kind)) (map (λ (h : Group). h.kind) groups) ≡ true
        → filter (is_at kind id) (rows (put (row_group x) groups))
        ≡ filter (is_at kind id) (rows groups) ++ filter (is_at kind id) (x ∷ [])
        → filter (is_at kind id) (rows (cond t (record g { refs = g.refs ++ x.resource ∷ [] } ∷ groups)
        (g ∷ put (row_group x) groups)))
        ≡ filter (is_at kind id) (group_rows g ++ rows groups) ++ filter (is_at kind id) (x ∷ [])
    cases true h apart again =
        let same : g.kind ≡ x.kind = eqb-true g.kind x.kind h in
        let rest : List Row = filter (is_at kind id) (rows groups) in
        let gone : is_at kind id x ≡ true → rest ≡ [] = λ here.
        let kinds = and_parts (x.kind == kind) (int_eq x.resource.id id) here in
        none_in kind id groups (ap (λ (k : ℕ). list_all (λ j. not (j == k)) (map (λ (h : Group). h.kind) groups))
        (sym (eqb-true x.kind kind kinds.0) ∙ sym same) ∙ apart) in
        ap (λ l. filter (is_at kind id) (l ++ rows groups)) (map-append (row g.kind) g.refs (x.resource ∷ [])
        ∙ ap (λ (k : ℕ). group_rows g ++ row k x.resource ∷ []) same)
        ∙ filter-append (is_at kind id) (group_rows g ++ x ∷ []) (rows groups)
        ∙ ap (λ l. l ++ rest) (filter-append (is_at kind id) (group_rows g) (x ∷ []))
        ∙ swapped (filter (is_at kind id) (group_rows g)) rest gone
        ∙ ap (λ l. l ++ filter (is_at kind id) (x ∷ [])) (sym (filter-append (is_at kind id) (group_rows g) (rows groups)))
    cases false h apart again =
        filter-append (is_at kind id) (group_rows g) (rows (put (row_group x) groups))
        ∙ ap (λ l. filter (is_at kind id) (group_rows g) ++ l) again
        ∙ sym (append_assoc (filter (is_at kind id) (group_rows g)) (filter (is_at kind id) (rows groups))
        (filter (is_at kind id) (x ∷ [])))
        ∙ ap (λ l. l ++ filter (is_at kind id) (x ∷ [])) (sym (filter-append (is_at kind id) (group_rows g) (rows groups)))

-- the types stay different ones
put_kinds : (p : ℕ → Bool) (g : Group) (groups : List Group) → p g.kind ≡ true
    → list_all p (map (λ (h : Group). h.kind) groups) ≡ true → list_all p (map (λ (h : Group). h.kind) (put g groups)) ≡ true
put_kinds p g [] here all = rw here refl
put_kinds p g (h ∷ groups) here all =
    let each = and_parts (p h.kind) (list_all p (map (λ (x : Group). x.kind) groups)) all in
    cases (h.kind == g.kind) each.0 (put_kinds p g groups here each.1)
  where
    cases : (t : Bool) → p h.kind ≡ true → list_all p (map (λ (x : Group). x.kind) (put g groups)) ≡ true
        → list_all p (map (λ (x : Group). x.kind) (cond t (record h { refs = h.refs ++ g.refs } ∷ groups) (h ∷ put g groups)))
        ≡ true
    cases true first rest = all
    cases false first rest = rw (first, rest) refl

put_distinct : (g : Group) (groups : List Group) → are_distinct (map (λ (h : Group). h.kind) groups) ≡ true
    → are_distinct (map (λ (h : Group). h.kind) (put g groups)) ≡ true
put_distinct g [] different = refl
put_distinct g (h ∷ groups) different =
    let each = and_parts (list_all (λ j. not (j == h.kind)) (map (λ (x : Group). x.kind) groups))
    (are_distinct (map (λ (x : Group). x.kind) groups)) different in
    cases (h.kind == g.kind) refl each.0 (put_distinct g groups each.1)
  where
    turned : (m n : ℕ) → (m == n) ≡ false → not (n == m) ≡ true
    turned m n h = grind (arith, nat_tests)

    cases : (t : Bool) → (h.kind == g.kind) ≡ t
        → list_all (λ j. not (j == h.kind)) (map (λ (x : Group). x.kind) groups) ≡ true
        → are_distinct (map (λ (x : Group). x.kind) (put g groups)) ≡ true
        → are_distinct (map (λ (x : Group). x.kind) (cond t (record h { refs = h.refs ++ g.refs } ∷ groups) (h ∷ put g groups)))
        ≡ true
    cases true e apart rest = different
    cases false e apart rest = rw (put_kinds (λ j. not (j == h.kind)) g groups (turned h.kind g.kind e) apart, rest) refl

with_filter : (kind : ℕ) (id : ℤ) (xs : List Row) (groups : List Group)
    → are_distinct (map (λ (g : Group). g.kind) groups) ≡ true
    → filter (is_at kind id) (rows (with_rows xs groups)) ≡ filter (is_at kind id) (rows groups) ++ filter (is_at kind id) xs
with_filter kind id [] groups different = sym (append-nil (filter (is_at kind id) (rows groups)))
with_filter kind id (x ∷ xs) groups different =
    with_filter kind id xs (put (row_group x) groups) (put_distinct (row_group x) groups different)
    ∙ ap (λ l. l ++ filter (is_at kind id) xs) (put_filter kind id x groups different)
    ∙ append_assoc (filter (is_at kind id) (rows groups)) (filter (is_at kind id) (x ∷ [])) (filter (is_at kind id) xs)
    ∙ ap (λ l. filter (is_at kind id) (rows groups) ++ l) (sym (filter-append (is_at kind id) (x ∷ []) xs))

-- of each type and ID just the resources of both, in their order
pub gathered : (kind : ℕ) (id : ℤ) (c d : Content) → filter (is_at kind id) (rows (with_both c d).groups)
    ≡ filter (is_at kind id) (both (rows c.groups) (rows d.groups))
gathered kind id c d = with_filter kind id (both (rows c.groups) (rows d.groups)) [] refl

-- lists of which the same items pass have the same first one
find_same : {A : Type 0} (p : A → Bool) (xs ys : List A) → filter p xs ≡ filter p ys → find p xs ≡ find p ys
find_same {A} p xs ys same = cases (filter p ys) same refl
  where
    cases : (l : List A) → filter p xs ≡ l → filter p ys ≡ l → find p xs ≡ find p ys
    cases [] e f = none_found p xs e ∙ sym (none_found p ys f)
    cases (y ∷ l) e f = first_found p xs l y e ∙ sym (first_found p ys l y f)

-- what is found passes
found_passes : {A : Type 0} (p : A → Bool) (xs : List A) (y : A) → find p xs ≡ Some y → p y ≡ true
found_passes p [] y e = cc
found_passes {A} p (x ∷ xs) y e = cases (p x) refl (found_passes p xs y) e
  where
    cases : (t : Bool) → p x ≡ t → (find p xs ≡ Some y → p y ≡ true) → cond t (Some x) (find p xs) ≡ Some y → p y ≡ true
    cases true h again e =
        let same : x ≡ y = cc in
        ap p (sym same) ∙ h
    cases false h again e = again e

-- resources of one type and ID pass the same tests
same_at : (kind : ℕ) (id : ℤ) (r s : Row) → is_same r s ≡ true → is_at kind id s ≡ is_at kind id r
same_at kind id r s same =
    let each = and_parts (s.kind == r.kind) (int_eq s.resource.id r.resource.id) same in
    ap (λ (k : ℕ). k == kind && int_eq s.resource.id id) (eqb-true s.kind r.kind each.0)
    ∙ ap (λ (i : ℤ). r.kind == kind && int_eq i id) ((Decides-int_eq s.resource.id r.resource.id).0 each.1)

at_same : (kind : ℕ) (id : ℤ) (r : Row) → is_at kind id r ≡ true → is_same r ≡ is_at kind id
at_same kind id r here =
    let each = and_parts (r.kind == kind) (int_eq r.resource.id id) here in
    ap (λ (k : ℕ). is_at k r.resource.id) (eqb-true r.kind kind each.0)
    ∙ ap (λ (i : ℤ). is_at kind i) ((Decides-int_eq r.resource.id id).0 each.1)

-- others of another type and ID leave the first of a type and an ID
found_still : (kind : ℕ) (id : ℤ) (r : Row) (xs : List Row) → is_at kind id r ≡ false
    → find (is_at kind id) (others (is_same r) xs) ≡ find (is_at kind id) xs
found_still kind id r xs other = find_same (is_at kind id) (others (is_same r) xs) xs
    (apart_left (is_same r) (is_at kind id) xs (λ x here. same_at kind id r x here ∙ other))

-- a counterpart has the type and the ID
replaced_at : (kind : ℕ) (id : ℤ) (r : Row) (news : List Row)
    → is_at kind id (unwrap_or (find (is_same r) news) r) ≡ is_at kind id r
replaced_at kind id r news = cases (find (is_same r) news) refl
  where
    cases : (o : Option Row) → find (is_same r) news ≡ o → is_at kind id (unwrap_or o r) ≡ is_at kind id r
    cases (Some s) e = same_at kind id r s (found_passes (is_same r) news s e)
    cases None e = refl

-- what is found of the first's resources once they are replaced
replaced_found : (kind : ℕ) (id : ℤ) (olds news : List Row) → find (is_at kind id) (replaced_by olds news)
    ≡ option_map (unwrap_or (find (is_at kind id) news)) (find (is_at kind id) olds)
replaced_found kind id [] news = refl
replaced_found kind id (r ∷ olds) news =
    rw (replaced_at kind id r news) (cases (is_at kind id r) refl (replaced_found kind id olds (others (is_same r) news)))
  where
    cases : (t : Bool) → is_at kind id r ≡ t
        → find (is_at kind id) (replaced_by olds (others (is_same r) news))
        ≡ option_map (unwrap_or (find (is_at kind id) (others (is_same r) news))) (find (is_at kind id) olds)
        → cond t (Some (unwrap_or (find (is_same r) news) r)) (find (is_at kind id) (replaced_by olds (others (is_same r) news)))
        ≡ option_map (unwrap_or (find (is_at kind id) news)) (cond t (Some r) (find (is_at kind id) olds))
    cases true h again = ap (λ (q : Row → Bool). Some (unwrap_or (find q news) r)) (at_same kind id r h)
    cases false h again = again
        ∙ ap (λ o. option_map (unwrap_or o) (find (is_at kind id) olds)) (found_still kind id r news h)

-- what is found of the second's resources, where the first has none
unmatched_found : (kind : ℕ) (id : ℤ) (news olds : List Row) → find (is_at kind id) olds ≡ None
    → find (is_at kind id) (unmatched news olds) ≡ find (is_at kind id) news
unmatched_found kind id [] olds none = refl
unmatched_found kind id (s ∷ news) olds none =
    cases (is_at kind id s) refl (unmatched_found kind id news (others (is_same s) olds))
  where
    past : (o : Option Row) (l : List Row) → is_at kind id s ≡ false
        → find (is_at kind id) (alone s o ++ l) ≡ find (is_at kind id) l
    past (Some r) l h = refl
    past None l h = rw h refl

    cases : (t : Bool) → is_at kind id s ≡ t
        → (find (is_at kind id) (others (is_same s) olds) ≡ None
        → find (is_at kind id) (unmatched news (others (is_same s) olds)) ≡ find (is_at kind id) news)
        → find (is_at kind id) (alone s (find (is_same s) olds) ++ unmatched news (others (is_same s) olds))
        ≡ cond t (Some s) (find (is_at kind id) news)
    cases true h again =
        let no : find (is_same s) olds ≡ None = ap (λ (q : Row → Bool). find q olds) (at_same kind id s h) ∙ none in
        rw (no, h) refl
    cases false h again =
        past (find (is_same s) olds) (unmatched news (others (is_same s) olds)) h
        ∙ again (found_still kind id s olds h ∙ none)

-- each resource of both is found, the second's where both have one
pub found_in_both : (kind : ℕ) (id : ℤ) (c d : Content)
    → found kind id (with_both c d) ≡ or_other (found kind id d) (found kind id c)
found_in_both kind id c d =
    ap (option_map (λ (x : Row). x.resource))
    (find_same (is_at kind id) (rows (with_both c d).groups) (both (rows c.groups) (rows d.groups)) (gathered kind id c d)
    ∙ find_append (is_at kind id) (replaced_by (rows c.groups) (rows d.groups)) (unmatched (rows d.groups) (rows c.groups))
    ∙ ap (λ (o : Option Row). cond (is_some o) o (find (is_at kind id) (unmatched (rows d.groups) (rows c.groups))))
    (replaced_found kind id (rows c.groups) (rows d.groups)))
    ∙ cases (find (is_at kind id) (rows c.groups)) (find (is_at kind id) (rows d.groups))
    (find (is_at kind id) (unmatched (rows d.groups) (rows c.groups)))
    (unmatched_found kind id (rows d.groups) (rows c.groups))
  where
    cases : (a b u : Option Row) → (a ≡ None → u ≡ b)
        → option_map (λ (x : Row). x.resource) (cond (is_some (option_map (unwrap_or b) a)) (option_map (unwrap_or b) a) u)
        ≡ or_other (option_map (λ (x : Row). x.resource) b) (option_map (λ (x : Row). x.resource) a)
    cases (Some r) (Some s) u e = refl
    cases (Some r) None u e = refl
    cases None (Some s) u e = ap (option_map (λ (x : Row). x.resource)) (e refl)
    cases None None u e = ap (option_map (λ (x : Row). x.resource)) (e refl)

-- where no type and ID stand in both, the resources of both follow one another
pub both_apart : (olds news : List Row) → clash olds news ≡ None → both olds news ≡ olds ++ news
both_apart olds news apart = ap (λ l. l ++ unmatched news olds) (kept olds apart) ∙ ap (λ l. olds ++ l) (alones olds apart)
  where
    first : (t : Bool) (r : Row) (rest : Option Row) → cond t (Some r) rest ≡ None → (t ≡ false) × (rest ≡ None)
    first true r rest h = cc
    first false r rest h = (refl, h)

    none : (o : Option Row) → is_some o ≡ false → o ≡ None
    none (Some x) h = cc
    none None h = refl

    kept : (olds : List Row) → clash olds news ≡ None → replaced_by olds news ≡ olds
    kept [] h = refl
    kept (r ∷ olds) h =
        let each = first (is_some (find (is_same r) news)) r (clash olds news) h in
        let no : find (is_same r) news ≡ None = none (find (is_same r) news) each.0 in
        rw (no, all_others (is_same r) news no) (ap (λ l. r ∷ l) (kept olds each.1))

    alones : (olds : List Row) → clash olds news ≡ None → unmatched news olds ≡ news
    alones [] h = all_alone news
    alones (r ∷ olds) h =
        let each = first (is_some (find (is_same r) news)) r (clash olds news) h in
        first_taken r news olds
        ∙ ap (λ l. unmatched l olds) (all_others (is_same r) news (none (find (is_same r) news) each.0)) ∙ alones olds each.1

-- the types stand in the order in which they first occur
all_joined : (xs : List Row) (groups : List Group) → with_rows xs (joined groups) ≡ joined (groups ++ map row_group xs)
all_joined [] groups = ap joined (sym (append-nil groups))
all_joined (x ∷ xs) groups =
    ap (with_rows xs) (sym (joined-push groups (row_group x))) ∙ all_joined xs (groups ++ row_group x ∷ [])
    ∙ ap joined (append_assoc groups (row_group x ∷ []) (map row_group xs))

kinds_kept : (f : ℕ → Group) (kinds : List ℕ) → ((k : ℕ) → (f k).kind ≡ k) → map (λ (g : Group). g.kind) (map f kinds) ≡ kinds
kinds_kept f [] same = refl
kinds_kept f (k ∷ kinds) same = ap (λ (j : ℕ). j ∷ map (λ (g : Group). g.kind) (map f kinds)) (same k)
    ∙ ap (λ l. k ∷ l) (kinds_kept f kinds same)

row_kinds : (xs : List Row) → map (λ (g : Group). g.kind) (map row_group xs) ≡ map (λ (x : Row). x.kind) xs
row_kinds [] = refl
row_kinds (x ∷ xs) = ap (λ l. x.kind ∷ l) (row_kinds xs)

pub types_in_order : (c d : Content) → map (λ (g : Group). g.kind) (with_both c d).groups
    ≡ distinct (map (λ (x : Row). x.kind) (both (rows c.groups) (rows d.groups)))
types_in_order c d =
    ap (map (λ (g : Group). g.kind)) (all_joined (both (rows c.groups) (rows d.groups)) [])
    ∙ kinds_kept _ (distinct (map (λ (g : Group). g.kind) (map row_group (both (rows c.groups) (rows d.groups))))) (λ k. refl)
    ∙ ap distinct (row_kinds (both (rows c.groups) (rows d.groups)))
