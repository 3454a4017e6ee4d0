use Rattle.fork_edits.proofs.Cited.{◌≡◌, ◌≢◌, ℕ, ◌+◌, ◌<◌, ◌^◌, Bool, true, false, cond, List, [], ◌∷◌, ◌++◌, map, length, Option, Some}
use Rattle.fork_edits.proofs.Cited.{None, refl, sym, ◌∙◌, ap, drop, get_or, FitsSigned, option_map, is_some, w16, find}
use Rattle.fork_edits.proofs.Cited.{str_to_ascii_lowercase, eq-eqb, Decides-int_eq, rest-next, Row, others, is_same, fixed_name, twin}
use Rattle.fork_edits.proofs.Cited.{view_row}
use Rattle.fork_edits.specs.declared.resources.Row.{Row as StoredRow}
use Rattle.fork_edits.proofs.Fixing.{fixed_apart}

-- Resources of one type and ID, of which the files would have one name.

-- a resource has its own type and ID
same_self : (r : Row) → is_same r r ≡ true
same_self r = rw (eq-eqb r.kind r.kind refl, (Decides-int_eq r.resource.id r.resource.id).1 refl) refl

pub without_itself : (r : Row) (rows : List Row) → others (is_same r) (r ∷ rows) ≡ rows
without_itself r rows = rw (same_self r) refl

-- a search for a twin goes on, and ends
twin_past : (r : Row) (rows : List Row) → is_some (find (is_same r) rows) ≡ false → twin (r ∷ rows) ≡ twin rows
twin_past r rows none = rw none refl

twin_here : (r : Row) (rows : List Row) → is_some (find (is_same r) rows) ≡ true → twin (r ∷ rows) ≡ Some r
twin_here r rows some = rw some refl

pub rest_rows : (rows : List StoredRow) (i : ℕ) (row : StoredRow) → i < length rows → row ≡ get_or rows i row
    → map view_row (drop i rows) ≡ view_row row ∷ map view_row (drop (i + 1) rows)
rest_rows rows i row inside is = ap (map view_row) (rest-next rows i row inside is)

pub twin_further : (rows : List StoredRow) (i : ℕ) (row : StoredRow) (total : Option Row) → i < length rows
    → row ≡ get_or rows i row → is_some (find (is_same (view_row row)) (map view_row (drop (i + 1) rows))) ≡ false
    → twin (map view_row (drop i rows)) ≡ total → twin (map view_row (drop (i + 1) rows)) ≡ total
twin_further rows i row total inside is none told =
    sym (twin_past (view_row row) (map view_row (drop (i + 1) rows)) none)
    ∙ ap twin (sym (rest_rows rows i row inside is)) ∙ told

pub twin_found : (rows : List StoredRow) (i : ℕ) (row : StoredRow) (total : Option Row) → i < length rows
    → row ≡ get_or rows i row → is_some (find (is_same (view_row row)) (map view_row (drop (i + 1) rows))) ≡ true
    → twin (map view_row (drop i rows)) ≡ total → Some (view_row row) ≡ total
twin_found rows i row total inside is some told =
    sym (twin_here (view_row row) (map view_row (drop (i + 1) rows)) some)
    ∙ ap twin (sym (rest_rows rows i row inside is)) ∙ told

-- what an option of a stored resource says of that of its value
pub seen_some : (o : Option StoredRow) (p : Option Row) → option_map view_row o ≡ p → is_some o ≡ is_some p
seen_some (Some r) p e = ap is_some e
seen_some None p e = ap is_some e

pub seen_none : (p : Option Row) → is_some p ≡ false → p ≡ None
seen_none (Some r) h = cc
seen_none None h = refl

-- a resource that stands behind another is found there
stands_there : (p : Row → Bool) (y : Row) (before after : List Row) → p y ≡ true
    → is_some (find p (before ++ y ∷ after)) ≡ true
stands_there p y [] after passes = rw passes refl
stands_there p y (x ∷ before) after passes = cases (p x) (stands_there p y before after passes)
  where
    cases : (t : Bool) → is_some (find p (before ++ y ∷ after)) ≡ true
        → is_some (cond t (Some x) (find p (before ++ y ∷ after))) ≡ true
    cases true h = refl
    cases false h = h

no_twin : (x y : Row) (before between after : List Row) → twin (before ++ x ∷ (between ++ y ∷ after)) ≡ None
    → is_same x y ≡ true → ⊥
no_twin x y [] between after none same =
    let e : Some x ≡ None = sym (twin_here x (between ++ y ∷ after) (stands_there (is_same x) y between after same)) ∙ none in
    cc
no_twin x y (z ∷ before) between after none same =
    no_twin x y before between after
    (later (is_some (find (is_same z) (before ++ x ∷ (between ++ y ∷ after)))) none) same
  where
    later : (t : Bool) → cond t (Some z) (twin (before ++ x ∷ (between ++ y ∷ after))) ≡ None
        → twin (before ++ x ∷ (between ++ y ∷ after)) ≡ None
    later true h = cc
    later false h = h

-- where no two resources have one type and ID, no two files have one name
pub names_without_twins : (x y : Row) (before between after : List Row) → x.kind < 2 ^ 32 → y.kind < 2 ^ 32
    → FitsSigned w16 x.resource.id → FitsSigned w16 y.resource.id
    → twin (before ++ x ∷ (between ++ y ∷ after)) ≡ None
    → str_to_ascii_lowercase (fixed_name x.kind x.resource.id) ≢ str_to_ascii_lowercase (fixed_name y.kind y.resource.id)
names_without_twins x y before between after low high one two none same =
    let both = fixed_apart x.kind y.kind x.resource.id y.resource.id low high one two same in
    no_twin x y before between after none
    (rw (eq-eqb y.kind x.kind (sym both.0), (Decides-int_eq y.resource.id x.resource.id).1 (sym both.1)) refl)
