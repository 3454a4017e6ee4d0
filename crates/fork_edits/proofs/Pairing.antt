use Rattle.fork_edits.proofs.Cited.{◌≡◌, ℕ, Bool, true, false, cond, List, [], ◌∷◌, ◌++◌, map, Some, refl, sym, ap, ◌∙◌, ◌+◌, ◌<◌}
use Rattle.fork_edits.proofs.Cited.{append_assoc, drop, get_or, length, ◌&&◌, ◌==◌, find, int_eq, eqb-true, eq-eqb, Decides-int_eq}
use Rattle.fork_edits.proofs.Cited.{map-append, rest-next, Row, others, view_row, Difference, Added, is_same, compared, matched, paired}
use Rattle.fork_edits.proofs.Cited.{alone, unmatched}
use Rattle.fork_edits.specs.declared.resources.Row.{Row as StoredRow}

-- The differences of resources, told in two walks.

-- a test that two facts decide alike answers the same
one_answer : (s t : Bool) → (s ≡ true → t ≡ true) → (t ≡ true → s ≡ true) → s ≡ t
one_answer true t f g = sym (f refl)
one_answer false true f g = g refl
one_answer false false f g = refl

-- two resources are each other's counterparts
same_turned : (r s : Row) → is_same r s ≡ is_same s r
same_turned r s =
    ap (λ t. t && int_eq s.resource.id r.resource.id)
    (one_answer (s.kind == r.kind) (r.kind == s.kind) (λ h. eq-eqb r.kind s.kind (sym (eqb-true s.kind r.kind h)))
    (λ h. eq-eqb s.kind r.kind (sym (eqb-true r.kind s.kind h))))
    ∙ ap (λ t. r.kind == s.kind && t)
    (one_answer (int_eq s.resource.id r.resource.id) (int_eq r.resource.id s.resource.id)
    (λ h. (Decides-int_eq r.resource.id s.resource.id).1 (sym ((Decides-int_eq s.resource.id r.resource.id).0 h)))
    (λ h. (Decides-int_eq s.resource.id r.resource.id).1 (sym ((Decides-int_eq r.resource.id s.resource.id).0 h))))

-- where none waits all are alone
pub all_alone : (news : List Row) → unmatched news [] ≡ news
all_alone [] = refl
all_alone (s ∷ news) = ap (λ l. s ∷ l) (all_alone news)

-- a resource that waits takes away its counterpart
pub first_taken : (r : Row) (news olds : List Row) → unmatched news (r ∷ olds) ≡ unmatched (others (is_same r) news) olds
first_taken r [] olds = refl
first_taken r (s ∷ news) olds =
    cases (is_same s r) (is_same r s) (same_turned s r) (first_taken r news (others (is_same s) olds))
  where
    cases : (t u : Bool) → t ≡ u
        → unmatched news (r ∷ others (is_same s) olds) ≡ unmatched (others (is_same r) news) (others (is_same s) olds)
        → alone s (cond t (Some r) (find (is_same s) olds)) ++ unmatched news (cond t olds (r ∷ others (is_same s) olds))
        ≡ unmatched (cond u news (s ∷ others (is_same r) news)) olds
    cases true true e h = refl
    cases true false e h = cc
    cases false true e h = cc
    cases false false e h = ap (λ l. alone s (find (is_same s) olds) ++ l) h

-- both walks give all differences
pub matched_twice : (olds news : List Row)
    → matched olds news ≡ paired olds news ++ map Added (unmatched news olds)
matched_twice [] news = ap (map Added) (sym (all_alone news))
matched_twice (r ∷ olds) news =
    ap (λ l. compared r (find (is_same r) news) ++ l) (matched_twice olds (others (is_same r) news)
    ∙ ap (λ l. paired olds (others (is_same r) news) ++ map Added l) (sym (first_taken r news olds)))
    ∙ sym (append_assoc (compared r (find (is_same r) news)) (paired olds (others (is_same r) news))
    (map Added (unmatched news (r ∷ olds))))

-- a walk over the first resources goes on
pub paired_further : (olds : List StoredRow) (i : ℕ) (old : StoredRow) (rest : List Row) (mid new total : List Difference)
    → i < length olds → old ≡ get_or olds i old
    → new ≡ mid ++ compared (view_row old) (find (is_same (view_row old)) rest)
    → mid ++ paired (map view_row (drop i olds)) rest ≡ total
    → new ++ paired (map view_row (drop (i + 1) olds)) (others (is_same (view_row old)) rest) ≡ total
paired_further olds i old rest mid new total inside is noted told =
    let left : List Row = others (is_same (view_row old)) rest in
    let after : List Difference = paired (map view_row (drop (i + 1) olds)) left in
    ap (λ l. l ++ after) noted ∙ append_assoc mid (compared (view_row old) (find (is_same (view_row old)) rest)) after
    ∙ ap (λ l. mid ++ paired (map view_row l) rest) (sym (rest-next olds i old inside is)) ∙ told

-- a walk over the second resources goes on
pub alone_further : (news : List StoredRow) (i : ℕ) (s : StoredRow) (rest : List Row) (mid new total : List Difference)
    → i < length news → s ≡ get_or news i s
    → new ≡ mid ++ map Added (alone (view_row s) (find (is_same (view_row s)) rest))
    → mid ++ map Added (unmatched (map view_row (drop i news)) rest) ≡ total
    → new ++ map Added (unmatched (map view_row (drop (i + 1) news)) (others (is_same (view_row s)) rest)) ≡ total
alone_further news i s rest mid new total inside is noted told =
    let here : List Row = alone (view_row s) (find (is_same (view_row s)) rest) in
    let after : List Row = unmatched (map view_row (drop (i + 1) news)) (others (is_same (view_row s)) rest) in
    ap (λ l. l ++ map Added after) noted ∙ append_assoc mid (map Added here) (map Added after)
    ∙ ap (λ l. mid ++ l) (sym (map-append Added here after))
    ∙ ap (λ l. mid ++ map Added (unmatched (map view_row l) rest)) (sym (rest-next news i s inside is)) ∙ told
