use Rattle.fork_edits.proofs.Cited.{◌≡◌, ℕ, ◌<◌, ◌≤◌, Bool, true, false, cond, List, [], ◌∷◌, ◌++◌, map, length, Option, Some, None, refl}
use Rattle.fork_edits.proofs.Cited.{sym, ◌∙◌, ap, arith, suc, zero, get_or, drop, set, ℤ, nat_le, option_map, is_some, ◌&&◌, ◌||◌, ◌==◌}
use Rattle.fork_edits.proofs.Cited.{find, filter, list_all, list_any, position, remove, eqb-true, nat_tests, position-Some, has_refs, Ref}
use Rattle.fork_edits.proofs.Cited.{Group, Content, Row, row, group_rows, rows, has_id, is_at, found, others, has_resource, first_replaced}
use Rattle.fork_edits.proofs.Cited.{group_with, group_without, groups_without, without_resource}
use Rattle.fork_edits.proofs.Keeping.{passes_in, found_in}
use Rattle.fork_edits.proofs.Queues.{none_found, rest_left}

-- The first item that passes a test, taken out; items are seen by a view.

-- an item taken out at the first place that passes
removed_at : {A B : Type 0} (v : A → B) (p : B → Bool) (xs : List A) (i : ℕ) (d : A) → i < length xs
    → p (v (get_or xs i d)) ≡ true → ((k : ℕ) → k < i → p (v (get_or xs k d)) ≡ false)
    → map v (remove xs i) ≡ others p (map v xs)
removed_at v p [] i d inside passes fail = absurd (omega arith)
removed_at v p (x ∷ xs) zero d inside passes fail = taken (p (v x)) passes
  where
    taken : (t : Bool) → t ≡ true → map v xs ≡ cond t (map v xs) (v x ∷ others p (map v xs))
    taken true h = refl
    taken false h = cc
removed_at v p (x ∷ xs) (suc i) d inside passes fail =
    ap (λ l. v x ∷ l) (removed_at v p xs i d (omega arith) passes (λ k h. fail (suc k) (omega arith)))
    ∙ passed (p (v x)) (fail 0 (omega arith))
  where
    passed : (t : Bool) → t ≡ false → v x ∷ others p (map v xs) ≡ cond t (map v xs) (v x ∷ others p (map v xs))
    passed true h = cc
    passed false h = refl

pub removed_first : {A B : Type 0} (v : A → B) (p : B → Bool) (xs : List A) (i : ℕ) (d : A)
    → position (λ a. p (v a)) xs ≡ Some i → map v (remove xs i) ≡ others p (map v xs)
removed_first {A} v p xs i d found =
    let at = position-Some (λ (a : A). p (v a)) xs i d found in
    removed_at v p xs i d at.0 at.1 at.2

-- other items in the place of the first that passes: one, or none
replaced_at : {A B : Type 0} (v : A → B) (p : B → Bool) (by : B → List B) (xs : List A) (i : ℕ) (x y : A)
    → i < length xs → p (v (get_or xs i x)) ≡ true → ((k : ℕ) → k < i → p (v (get_or xs k x)) ≡ false)
    → by (v (get_or xs i x)) ≡ v y ∷ [] → map v (set xs i y) ≡ first_replaced p by (map v xs)
replaced_at v p by [] i x y inside passes fail e = absurd (omega arith)
replaced_at v p by (z ∷ xs) zero x y inside passes fail e = ap (λ l. l ++ map v xs) (sym e) ∙ taken (p (v z)) passes
  where
    taken : (t : Bool) → t ≡ true
        → by (v z) ++ map v xs ≡ cond t (by (v z) ++ map v xs) (v z ∷ first_replaced p by (map v xs))
    taken true h = refl
    taken false h = cc
replaced_at v p by (z ∷ xs) (suc i) x y inside passes fail e =
    ap (λ l. v z ∷ l) (replaced_at v p by xs i x y (omega arith) passes (λ k h. fail (suc k) (omega arith)) e)
    ∙ passed (p (v z)) (fail 0 (omega arith))
  where
    passed : (t : Bool) → t ≡ false → v z ∷ first_replaced p by (map v xs)
        ≡ cond t (by (v z) ++ map v xs) (v z ∷ first_replaced p by (map v xs))
    passed true h = cc
    passed false h = refl

emptied_at : {A B : Type 0} (v : A → B) (p : B → Bool) (by : B → List B) (xs : List A) (i : ℕ) (x y : A)
    → i < length xs → p (v (get_or xs i x)) ≡ true → ((k : ℕ) → k < i → p (v (get_or xs k x)) ≡ false)
    → by (v (get_or xs i x)) ≡ [] → map v (remove (set xs i y) i) ≡ first_replaced p by (map v xs)
emptied_at v p by [] i x y inside passes fail e = absurd (omega arith)
emptied_at v p by (z ∷ xs) zero x y inside passes fail e = ap (λ l. l ++ map v xs) (sym e) ∙ taken (p (v z)) passes
  where
    taken : (t : Bool) → t ≡ true
        → by (v z) ++ map v xs ≡ cond t (by (v z) ++ map v xs) (v z ∷ first_replaced p by (map v xs))
    taken true h = refl
    taken false h = cc
emptied_at v p by (z ∷ xs) (suc i) x y inside passes fail e =
    ap (λ l. v z ∷ l) (emptied_at v p by xs i x y (omega arith) passes (λ k h. fail (suc k) (omega arith)) e)
    ∙ passed (p (v z)) (fail 0 (omega arith))
  where
    passed : (t : Bool) → t ≡ false → v z ∷ first_replaced p by (map v xs)
        ≡ cond t (by (v z) ++ map v xs) (v z ∷ first_replaced p by (map v xs))
    passed true h = cc
    passed false h = refl

pub replaced_first : {A B : Type 0} (v : A → B) (p : B → Bool) (by : B → List B) (xs : List A) (i : ℕ) (x y : A)
    → position (λ a. p (v a)) xs ≡ Some i → x ≡ get_or xs i x → by (v x) ≡ v y ∷ []
    → map v (set xs i y) ≡ first_replaced p by (map v xs)
replaced_first {A} v p by xs i x y found is e =
    let at = position-Some (λ (a : A). p (v a)) xs i x found in
    replaced_at v p by xs i x y at.0 at.1 at.2 (ap (λ a. by (v a)) (sym is) ∙ e)

pub emptied_first : {A B : Type 0} (v : A → B) (p : B → Bool) (by : B → List B) (xs : List A) (i : ℕ) (x y : A)
    → position (λ a. p (v a)) xs ≡ Some i → x ≡ get_or xs i x → by (v x) ≡ []
    → map v (remove (set xs i y) i) ≡ first_replaced p by (map v xs)
emptied_first {A} v p by xs i x y found is e =
    let at = position-Some (λ (a : A). p (v a)) xs i x found in
    emptied_at v p by xs i x y at.0 at.1 at.2 (ap (λ a. by (v a)) (sym is) ∙ e)

-- nothing is replaced where no item passes
pub none_replaced : {B : Type 0} (p : B → Bool) (by : B → List B) (xs : List B) → list_any p xs ≡ false
    → first_replaced p by xs ≡ xs
none_replaced p by [] none = refl
none_replaced {B} p by (x ∷ xs) none = cases (p x) (none_replaced p by xs) none
  where
    cases : (t : Bool) → (list_any p xs ≡ false → first_replaced p by xs ≡ xs) → (t || list_any p xs) ≡ false
        → cond t (by x ++ xs) (x ∷ first_replaced p by xs) ≡ x ∷ xs
    cases true h e = cc
    cases false h e = ap (λ l. x ∷ l) (h e)

pub none_left_out : {B : Type 0} (p : B → Bool) (xs : List B) → list_any p xs ≡ false → others p xs ≡ xs
none_left_out p [] none = refl
none_left_out {B} p (x ∷ xs) none = cases (p x) (none_left_out p xs) none
  where
    cases : (t : Bool) → (list_any p xs ≡ false → others p xs ≡ xs) → (t || list_any p xs) ≡ false
        → cond t xs (x ∷ others p xs) ≡ x ∷ xs
    cases true h e = cc
    cases false h e = ap (λ l. x ∷ l) (h e)

-- a group of which resources are left, and one of which none is
pub group_left : (g h : Group) (refs : List Ref) → h ≡ record g { refs = refs } → (length h.refs == 0) ≡ false
    → group_with g.kind refs ≡ h ∷ []
group_left g h [] is some = absurd (empty (ap (λ (x : Group). length x.refs == 0) is ∙ refl))
  where
    empty : (length h.refs == 0) ≡ true → ⊥
    empty e = cc
group_left g h (r ∷ refs) is some = ap (λ x. x ∷ []) (sym is)

pub group_gone : (g h : Group) (refs : List Ref) → h ≡ record g { refs = refs } → (length h.refs == 0) ≡ true
    → group_with g.kind refs ≡ []
group_gone g h [] is none = refl
group_gone g h (r ∷ refs) is none =
    let e : suc (length refs) ≡ 0 = eqb-true (length (r ∷ refs)) 0 (ap (λ (x : Group). length x.refs == 0) (sym is) ∙ none) in
    absurd (omega arith)

-- all others are left, of all resources in their order
others_append : {A : Type 0} (p : A → Bool) (xs ys : List A)
    → others p (xs ++ ys) ≡ cond (is_some (find p xs)) (others p xs ++ ys) (xs ++ others p ys)
others_append p [] ys = refl
others_append {A} p (x ∷ xs) ys = step (p x) (find p xs) (others_append p xs ys)
  where
    step : (t : Bool) (o : Option A) → others p (xs ++ ys) ≡ cond (is_some o) (others p xs ++ ys) (xs ++ others p ys)
        → cond t (xs ++ ys) (x ∷ others p (xs ++ ys))
        ≡ cond (is_some (cond t (Some x) o)) (cond t xs (x ∷ others p xs) ++ ys) (x ∷ xs ++ others p ys)
    step true o e = refl
    step false (Some z) e = ap (λ l. x ∷ l) e
    step false None e = ap (λ l. x ∷ l) e

group_others : (kind k : ℕ) (id : ℤ) (refs : List Ref) → (k == kind) ≡ true
    → map (row k) (others (has_id id) refs) ≡ others (is_at kind id) (map (row k) refs)
group_others kind k id [] same = refl
group_others kind k id (r ∷ refs) same = step (k == kind) (has_id id r) same (group_others kind k id refs same)
  where
    step : (t u : Bool) → t ≡ true
        → map (row k) (others (has_id id) refs) ≡ others (is_at kind id) (map (row k) refs)
        → map (row k) (cond u refs (r ∷ others (has_id id) refs))
        ≡ cond (t && u) (map (row k) refs) (row k r ∷ others (is_at kind id) (map (row k) refs))
    step true true h e = refl
    step true false h e = ap (λ l. row k r ∷ l) e
    step false u h e = cc

group_with_rows : (k : ℕ) (refs : List Ref) (groups : List Group)
    → rows (group_with k refs ++ groups) ≡ map (row k) refs ++ rows groups
group_with_rows k [] groups = refl
group_with_rows k (r ∷ refs) groups = refl

removed_rows : (kind : ℕ) (id : ℤ) (groups : List Group)
    → rows (groups_without kind id groups) ≡ others (is_at kind id) (rows groups)
removed_rows kind id [] = refl
removed_rows kind id (g ∷ groups) =
    step (g.kind == kind) (is_some (find (has_id id) g.refs)) refl (removed_rows kind id groups)
    ∙ sym (others_append (is_at kind id) (group_rows g) (rows groups)
    ∙ ap (λ (t : Bool). cond t (others (is_at kind id) (group_rows g) ++ rows groups)
    (group_rows g ++ others (is_at kind id) (rows groups))) (passes_in kind g.kind id g.refs))
  where
    step : (t u : Bool) → (g.kind == kind) ≡ t
        → rows (groups_without kind id groups) ≡ others (is_at kind id) (rows groups)
        → rows (cond (t && u) (group_without id g ++ groups) (g ∷ groups_without kind id groups))
        ≡ cond (t && u) (others (is_at kind id) (group_rows g) ++ rows groups)
        (group_rows g ++ others (is_at kind id) (rows groups))
    step true true h e = group_with_rows g.kind (others (has_id id) g.refs) groups
        ∙ ap (λ l. l ++ rows groups) (group_others kind g.kind id g.refs h)
    step true false h e = ap (λ l. group_rows g ++ l) e
    step false u h e = ap (λ l. group_rows g ++ l) e

pub without_others : (kind : ℕ) (id : ℤ) (c : Content)
    → rows (without_resource kind id c).groups ≡ others (is_at kind id) (rows c.groups)
without_others kind id c = removed_rows kind id c.groups

-- where there was but one, none is found any more
pub without_found : (kind : ℕ) (id : ℤ) (c : Content) → length (filter (is_at kind id) (rows c.groups)) ≤ 1
    → found kind id (without_resource kind id c) ≡ None
without_found kind id c few =
    ap (λ l. option_map (λ (x : Row). x.resource) (find (is_at kind id) l)) (removed_rows kind id c.groups)
    ∙ ap (option_map (λ (x : Row). x.resource)) (none_found (is_at kind id) (others (is_at kind id) (rows c.groups))
    (rest_left (is_at kind id) (rows c.groups) ∙ no_more (filter (is_at kind id) (rows c.groups)) few))
  where
    no_more : (xs : List Row) → length xs ≤ 1 → drop 1 xs ≡ []
    no_more [] h = refl
    no_more (x ∷ []) h = refl
    no_more (x ∷ y ∷ xs) h = absurd (omega arith)

-- where there was none, the content is as it was
pub without_none : (kind : ℕ) (id : ℤ) (c : Content) → found kind id c ≡ None → without_resource kind id c ≡ c
without_none kind id c none =
    ap (λ (groups : List Group). record c { groups = groups }) (none_replaced (has_resource kind id) (group_without id) c.groups
    (found_in kind id c.groups ∙ cases (find (is_at kind id) (rows c.groups)) none))
  where
    cases : (o : Option Row) → option_map (λ (x : Row). x.resource) o ≡ None → is_some o ≡ false
    cases (Some x) h = cc
    cases None h = refl

-- each type that is left has a resource
left_types : (kind : ℕ) (id : ℤ) (groups : List Group) → list_all has_refs groups ≡ true
    → list_all has_refs (groups_without kind id groups) ≡ true
left_types kind id [] all = refl
left_types kind id (g ∷ groups) all =
    let each = both (has_refs g) (list_all has_refs groups) all in
    step (has_resource kind id g) (others (has_id id) g.refs) each.0 each.1 (left_types kind id groups each.1)
  where
    both : (s t : Bool) → (s && t) ≡ true → (s ≡ true) × (t ≡ true)
    both true t h = (refl, h)
    both false t h = cc

    step : (t : Bool) (refs : List Ref) → has_refs g ≡ true → list_all has_refs groups ≡ true
        → list_all has_refs (groups_without kind id groups) ≡ true
        → list_all has_refs (cond t (group_with g.kind refs ++ groups) (g ∷ groups_without kind id groups)) ≡ true
    step true [] h rest e = rest
    step true (r ∷ refs) h rest e =
        let some : nat_le 1 (length (r ∷ refs)) ≡ true = grind (arith, nat_tests) in
        rw (some, rest) refl
    step false refs h rest e = rw (h, e) refl

pub without_types : (kind : ℕ) (id : ℤ) (c : Content) → list_all has_refs c.groups ≡ true
    → list_all has_refs (without_resource kind id c).groups ≡ true
without_types kind id c all = left_types kind id c.groups all
