-- Resources that were taken out of a content, packed again.
use Rattle.fork_edits.proofs.Cited.{◌≡◌, ℕ, Bool, true, false, cond, List, [], ◌∷◌, ◌++◌, map, length, refl, sym, ◌∙◌, ap, append_assoc}
use Rattle.fork_edits.proofs.Cited.{append-nil, arith, ◌==◌, not, nat_le, list_all, and_parts, eq-eqb, nat_tests, are_distinct, has_refs}
use Rattle.fork_edits.proofs.Cited.{Ref, Group, put, Row, row, group_rows, rows, row_group, with_rows}

abbrev group : ℕ → List Ref → Group
group kind refs = record { kind = kind; refs = refs }

-- two lists of resources, put in one after the other
with_append : (xs ys : List Row) (groups : List Group) → with_rows (xs ++ ys) groups ≡ with_rows ys (with_rows xs groups)
with_append [] ys groups = refl
with_append (x ∷ xs) ys groups = with_append xs ys (put (row_group x) groups)

-- resources of a type go into its group
with_own : (k : ℕ) (refs more : List Ref) → with_rows (map (row k) more) (group k refs ∷ []) ≡ group k (refs ++ more) ∷ []
with_own k refs [] = ap (λ l. group k l ∷ []) (sym (append-nil refs))
with_own k refs (r ∷ more) =
    ap (λ t. with_rows (map (row k) more) (cond t (group k (refs ++ r ∷ []) ∷ []) (group k refs ∷ group k (r ∷ []) ∷ [])))
    (eq-eqb k k refl)
    ∙ with_own k (refs ++ r ∷ []) more ∙ ap (λ l. group k l ∷ []) (append_assoc refs (r ∷ []) more)

-- resources of other types leave a group as it is
with_past : (g : Group) (xs : List Row) (groups : List Group) → list_all (λ (x : Row). not (g.kind == x.kind)) xs ≡ true
    → with_rows xs (g ∷ groups) ≡ g ∷ with_rows xs groups
with_past g [] groups other = refl
with_past g (x ∷ xs) groups other =
    let each = and_parts (not (g.kind == x.kind)) (list_all (λ (y : Row). not (g.kind == y.kind)) xs) other in
    past (g.kind == x.kind) each.0 ∙ with_past g xs (put (row_group x) groups) each.1
  where
    past : (t : Bool) → not t ≡ true
        → with_rows xs (cond t (record g { refs = g.refs ++ x.resource ∷ [] } ∷ groups) (g ∷ put (row_group x) groups))
        ≡ with_rows xs (g ∷ put (row_group x) groups)
    past true e = cc
    past false e = refl

turned : (j k : ℕ) → not (j == k) ≡ true → not (k == j) ≡ true
turned j k e = grind (arith, nat_tests)

-- the resources of groups of other types are of other types
refs_other : (j k : ℕ) (refs : List Ref) → not (k == j) ≡ true → list_all (λ (x : Row). not (k == x.kind)) (map (row j) refs) ≡ true
refs_other j k [] e = refl
refs_other j k (r ∷ refs) e = rw e (refs_other j k refs e)

all_append : (p : Row → Bool) (xs ys : List Row) → list_all p xs ≡ true → list_all p ys ≡ true → list_all p (xs ++ ys) ≡ true
all_append p [] ys h k = k
all_append p (x ∷ xs) ys h k =
    let each = and_parts (p x) (list_all p xs) h in
    rw each.0 (all_append p xs ys each.1 k)

rows_other : (k : ℕ) (groups : List Group) → list_all (λ m. not (m == k)) (map (λ (g : Group). g.kind) groups) ≡ true
    → list_all (λ (x : Row). not (k == x.kind)) (rows groups) ≡ true
rows_other k [] other = refl
rows_other k (g ∷ groups) other =
    let each = and_parts (not (g.kind == k)) (list_all (λ m. not (m == k)) (map (λ (h : Group). h.kind) groups)) other in
    all_append (λ (x : Row). not (k == x.kind)) (group_rows g) (rows groups)
    (refs_other g.kind k g.refs (turned g.kind k each.0)) (rows_other k groups each.1)

-- the resources of a group that has some make the group
with_group : (g : Group) → has_refs g ≡ true → with_rows (group_rows g) [] ≡ g ∷ []
with_group g some = of_refs g.kind g.refs some
  where
    of_refs : (k : ℕ) (refs : List Ref) → nat_le 1 (length refs) ≡ true → with_rows (map (row k) refs) [] ≡ group k refs ∷ []
    of_refs k [] none = cc
    of_refs k (r ∷ refs) h = with_own k (r ∷ []) refs

-- the resources of groups of which each has some, and of which no two are of one type, make the groups
pub packed_again : (groups : List Group) → list_all has_refs groups ≡ true
    → are_distinct (map (λ (g : Group). g.kind) groups) ≡ true → with_rows (rows groups) [] ≡ groups
packed_again [] some different = refl
packed_again (g ∷ groups) some different =
    let have = and_parts (has_refs g) (list_all has_refs groups) some in
    let each = and_parts (list_all (λ m. not (m == g.kind)) (map (λ (h : Group). h.kind) groups))
    (are_distinct (map (λ (h : Group). h.kind) groups)) different in
    with_append (group_rows g) (rows groups) []
    ∙ ap (with_rows (rows groups)) (with_group g have.0)
    ∙ with_past g (rows groups) [] (rows_other g.kind groups each.0)
    ∙ ap (λ l. g ∷ l) (packed_again groups have.1 each.1)
