use Rattle.fork_edits.proofs.Cited.{◌≡◌, ℕ, Bool, true, false, cond, List, [], ◌∷◌, ◌++◌, map, length, Option, Some, None, refl, sym, ap}
use Rattle.fork_edits.proofs.Cited.{◌∙◌, Ordering, Less, Equal, Greater, append-nil, drop, ℤ, MatchOption, option_map, option_to_list, ◌&&◌}
use Rattle.fork_edits.proofs.Cited.{◌==◌, find, filter, nat_cmp, int_cmp, int_eq, is_eq, ordering_then, eqb-true, Decides-int_eq}
use Rattle.fork_edits.proofs.Cited.{filter-append, is_eq-nat_cmp, Queue, Row, is_at, others, is_same, view_row, key_cmp, same_key, queued}
use Rattle.fork_edits.specs.declared.resources.Row.{Row as StoredRow}

-- Resources that wait in queues by type and ID.

-- a type and an ID that are the same, and those that are not
same_first : (x y : ℕ × ℤ) → same_key x y ≡ true → x.0 ≡ y.0
same_first x y h = eqb-true x.0 y.0 (left (x.0 == y.0) (int_eq x.1 y.1) h)
  where
    left : (s t : Bool) → (s && t) ≡ true → s ≡ true
    left true t h = refl
    left false t h = h

same_second : (x y : ℕ × ℤ) → same_key x y ≡ true → x.1 ≡ y.1
same_second x y h = (Decides-int_eq x.1 y.1).0 (right (x.0 == y.0) (int_eq x.1 y.1) h)
  where
    right : (s t : Bool) → (s && t) ≡ true → t ≡ true
    right true t h = h
    right false t h = cc

same_test : (x y : ℕ × ℤ) → same_key x y ≡ true → is_at x.0 x.1 ≡ is_at y.0 y.1
same_test x y h = ap (λ k. is_at k x.1) (same_first x y h) ∙ ap (λ i. is_at y.0 i) (same_second x y h)

-- no resource has two types and IDs
apart_test : (x y : ℕ × ℤ) → same_key x y ≡ false → (r : Row) → is_at x.0 x.1 r ≡ true → is_at y.0 y.1 r ≡ false
apart_test x y h r passes =
    let key : ℕ × ℤ = (r.kind, r.resource.id) in
    let one : r.kind ≡ x.0 = same_first key x passes in
    let two : r.resource.id ≡ x.1 = same_second key x passes in
    ap (λ k. k == y.0 && int_eq r.resource.id y.1) one ∙ ap (λ i. x.0 == y.0 && int_eq i y.1) two ∙ h

-- the first of those that pass is found
pub first_found : {A : Type 0} (p : A → Bool) (xs ys : List A) (y : A) → filter p xs ≡ y ∷ ys → find p xs ≡ Some y
first_found p [] ys y e = cc
first_found p (x ∷ xs) ys y e = cases (p x) (first_found p xs ys y) e
  where
    cases : (t : Bool) → (filter p xs ≡ y ∷ ys → find p xs ≡ Some y) → cond t (x ∷ filter p xs) (filter p xs) ≡ y ∷ ys
        → cond t (Some x) (find p xs) ≡ Some y
    cases true h e = cc
    cases false h e = h e

pub none_found : {A : Type 0} (p : A → Bool) (xs : List A) → filter p xs ≡ [] → find p xs ≡ None
none_found p [] e = refl
none_found p (x ∷ xs) e = cases (p x) (none_found p xs) e
  where
    cases : (t : Bool) → (filter p xs ≡ [] → find p xs ≡ None) → cond t (x ∷ filter p xs) (filter p xs) ≡ []
        → cond t (Some x) (find p xs) ≡ None
    cases true h e = cc
    cases false h e = h e

-- and the others of them are left
pub rest_left : {A : Type 0} (p : A → Bool) (xs : List A) → filter p (others p xs) ≡ drop 1 (filter p xs)
rest_left p [] = refl
rest_left p (x ∷ xs) = cases (p x) refl (rest_left p xs)
  where
    cases : (t : Bool) → p x ≡ t → filter p (others p xs) ≡ drop 1 (filter p xs)
        → filter p (cond t xs (x ∷ others p xs)) ≡ drop 1 (cond t (x ∷ filter p xs) (filter p xs))
    cases true h e = refl
    cases false h e = rw h e

-- as all are that never pass
pub apart_left : {A : Type 0} (p q : A → Bool) (xs : List A) → ((x : A) → p x ≡ true → q x ≡ false)
    → filter q (others p xs) ≡ filter q xs
apart_left p q [] apart = refl
apart_left p q (x ∷ xs) apart = cases (p x) refl (apart_left p q xs apart)
  where
    cases : (t : Bool) → p x ≡ t → filter q (others p xs) ≡ filter q xs
        → filter q (cond t xs (x ∷ others p xs)) ≡ cond (q x) (x ∷ filter q xs) (filter q xs)
    cases true h e = rw (apart x h) refl
    cases false h e = ap (λ l. cond (q x) (x ∷ l) l) e

-- the queue that was taken is put back with one more
pub one_more_waits : (k : ℕ × ℤ) (x : Row) (queue : List Row) (rows : List Row) (old mid new : ℕ × ℤ → List Row)
    → k ≡ (x.kind, x.resource.id) → ((q : ℕ × ℤ) → old q ≡ filter (is_at q.0 q.1) rows)
    → ((q : ℕ × ℤ) → mid q ≡ cond (same_key k q) [] (old q))
    → ((q : ℕ × ℤ) → new q ≡ cond (same_key k q) queue (mid q)) → queue ≡ old k ++ x ∷ [] → (q : ℕ × ℤ)
    → new q ≡ filter (is_at q.0 q.1) (rows ++ x ∷ [])
one_more_waits k x queue rows old mid new is waits taken put grown q =
    put q ∙ cases (same_key k q) refl
    ∙ ap (λ l. filter (is_at q.0 q.1) rows ++ l) (alone (is_at q.0 q.1 x) (ap (λ z. same_key z q) is))
    ∙ sym (filter-append (is_at q.0 q.1) rows (x ∷ []))
  where
    alone : (t : Bool) → same_key k q ≡ t → cond (same_key k q) (x ∷ []) [] ≡ cond t (x ∷ []) []
    alone t e = ap (λ (s : Bool). cond s (x ∷ []) []) e

    cases : (t : Bool) → same_key k q ≡ t
        → cond t queue (mid q) ≡ filter (is_at q.0 q.1) rows ++ cond (same_key k q) (x ∷ []) []
    cases true h =
        grown ∙ ap (λ l. l ++ x ∷ []) (waits k ∙ ap (λ p. filter p rows) (same_test k q h))
        ∙ ap (λ (s : Bool). filter (is_at q.0 q.1) rows ++ cond s (x ∷ []) []) (sym h)
    cases false h =
        taken q ∙ ap (λ (s : Bool). cond s [] (old q)) h ∙ waits q ∙ sym (append-nil (filter (is_at q.0 q.1) rows))
        ∙ ap (λ (s : Bool). filter (is_at q.0 q.1) rows ++ cond s (x ∷ []) []) (sym h)

-- the queue that was taken is put back without its first
pub others_wait : (k : ℕ × ℤ) (r : Row) (queue : List Row) (rows : List Row) (old mid new : ℕ × ℤ → List Row)
    → k ≡ (r.kind, r.resource.id) → ((q : ℕ × ℤ) → old q ≡ filter (is_at q.0 q.1) rows)
    → ((q : ℕ × ℤ) → mid q ≡ cond (same_key k q) [] (old q))
    → ((q : ℕ × ℤ) → new q ≡ cond (same_key k q) queue (mid q)) → queue ≡ drop 1 (old k) → (q : ℕ × ℤ)
    → new q ≡ filter (is_at q.0 q.1) (others (is_same r) rows)
others_wait k r queue rows old mid new is waits taken put shrunk q =
    put q ∙ cases (same_key k q) refl ∙ ap (λ z. filter (is_at q.0 q.1) (others (is_at z.0 z.1) rows)) is
  where
    cases : (t : Bool) → same_key k q ≡ t
        → cond t queue (mid q) ≡ filter (is_at q.0 q.1) (others (is_at k.0 k.1) rows)
    cases true h =
        shrunk ∙ ap (λ l. drop 1 l) (waits k) ∙ sym (rest_left (is_at k.0 k.1) rows)
        ∙ ap (λ p. filter p (others (is_at k.0 k.1) rows)) (same_test k q h)
    cases false h =
        taken q ∙ ap (λ (s : Bool). cond s [] (old q)) h ∙ waits q
        ∙ sym (apart_left (is_at k.0 k.1) (is_at q.0 q.1) rows (apart_test k q h))

-- those behind the first
pub shrunk_rows : (queue left : List StoredRow) (waits : List Row) → left ≡ drop 1 queue → map view_row queue ≡ waits
    → map view_row left ≡ drop 1 waits
shrunk_rows queue left waits is same = ap (map view_row) is ∙ behind queue ∙ ap (λ l. drop 1 l) same
  where
    behind : (xs : List StoredRow) → map view_row (drop 1 xs) ≡ drop 1 (map view_row xs)
    behind [] = refl
    behind (x ∷ xs) = refl

-- the first of a queue is found
pub first_waits : (k : ℕ × ℤ) (r : Row) (rows waits : List Row) (queue left : List StoredRow) (first : Option StoredRow)
    (n m : ℕ) (B : StoredRow → Type 0) → k ≡ (r.kind, r.resource.id) → map view_row queue ≡ waits
    → waits ≡ filter (is_at k.0 k.1) rows → queue ≡ option_to_list first ++ left → n ≡ length queue
    → MatchOption first ((n ≡ 0) × (m ≡ 0)) B → option_map view_row first ≡ find (is_same r) rows
first_waits k r rows waits queue left first n m B is same passes split all none =
    cases first split none ∙ ap (λ z. find (is_at z.0 z.1) rows) is
  where
    empty : (xs : List StoredRow) → length xs ≡ 0 → xs ≡ []
    empty [] h = refl
    empty (x ∷ xs) h = cc

    cases : (o : Option StoredRow) → queue ≡ option_to_list o ++ left
        → MatchOption o ((n ≡ 0) × (m ≡ 0)) B → option_map view_row o ≡ find (is_at k.0 k.1) rows
    cases (Some x) e h =
        sym (first_found (is_at k.0 k.1) rows (map view_row left) (view_row x)
        (sym passes ∙ sym same ∙ ap (map view_row) e))
    cases None e h =
        sym (none_found (is_at k.0 k.1) rows
        (sym passes ∙ sym same ∙ ap (map view_row) (empty queue (sym all ∙ h.0))))
