use Rattle.fork_edits.proofs.Cited.{◌≡◌, ℕ, Bool, true, false, cond, List, [], ◌∷◌, ◌++◌, map, Option, Some, None, refl, sym, ap, ◌∙◌}
use Rattle.fork_edits.proofs.Cited.{append_assoc, ℤ, option_map, is_some, unwrap_or, ◌&&◌, ◌||◌, ◌==◌, find, list_any, eqb-true, eq-eqb}
use Rattle.fork_edits.proofs.Cited.{Decides-int_eq, map-append, Ref, Group, Content, put, Row, row, group_rows, rows, has_id, is_at, found}
use Rattle.fork_edits.proofs.Cited.{others, Change, changed, blank, first_changed, row_changed, has_resource, replaced, one_group, added}
use Rattle.fork_edits.proofs.Cited.{groups_with, with_resource, resource_set}
use Rattle.fork_edits.proofs.Finding.{find_append}

-- What setting a resource changes, and what it leaves, of all resources in their order.

-- the first item that passes is changed in the first list, or else in the second
changed_append : {A : Type 0} (p : A → Bool) (f : A → A) (xs ys : List A)
    → first_changed p f (xs ++ ys) ≡ cond (is_some (find p xs)) (first_changed p f xs ++ ys) (xs ++ first_changed p f ys)
changed_append p f [] ys = refl
changed_append {A} p f (x ∷ xs) ys = step (p x) (find p xs) (changed_append p f xs ys)
  where
    step : (t : Bool) (o : Option A)
        → first_changed p f (xs ++ ys) ≡ cond (is_some o) (first_changed p f xs ++ ys) (xs ++ first_changed p f ys)
        → cond t (f x ∷ xs ++ ys) (x ∷ first_changed p f (xs ++ ys))
        ≡ cond (is_some (cond t (Some x) o)) (cond t (f x ∷ xs) (x ∷ first_changed p f xs) ++ ys)
        (x ∷ xs ++ first_changed p f ys)
    step true o e = refl
    step false (Some z) e = ap (λ l. x ∷ l) e
    step false None e = ap (λ l. x ∷ l) e

-- an item of a group passes where the group has the resource
pub passes_in : (kind k : ℕ) (id : ℤ) (refs : List Ref)
    → is_some (find (is_at kind id) (map (row k) refs)) ≡ (k == kind && is_some (find (has_id id) refs))
passes_in kind k id [] = none (k == kind)
  where
    none : (t : Bool) → false ≡ (t && false)
    none true = refl
    none false = refl
passes_in kind k id (r ∷ refs) =
    step (k == kind) (has_id id r) (find (is_at kind id) (map (row k) refs)) (find (has_id id) refs)
    (passes_in kind k id refs)
  where
    step : (t u : Bool) (a : Option Row) (b : Option Ref) → is_some a ≡ (t && is_some b)
        → is_some (cond (t && u) (Some (row k r)) a) ≡ (t && is_some (cond u (Some r) b))
    step true true a b e = refl
    step true false a b e = e
    step false u a b e = e

-- a resource with its type, changed
abbrev pub row_by : (Ref → Ref) → Row → Row
row_by f x = record x { resource = f x.resource }

-- the resources of a group that is changed
group_changed_rows : (kind k : ℕ) (id : ℤ) (f : Ref → Ref) (refs : List Ref) → (k == kind) ≡ true
    → map (row k) (first_changed (has_id id) f refs) ≡ first_changed (is_at kind id) (row_by f) (map (row k) refs)
group_changed_rows kind k id f [] same = refl
group_changed_rows kind k id f (r ∷ refs) same =
    step (k == kind) (has_id id r) same (group_changed_rows kind k id f refs same)
  where
    step : (t u : Bool) → t ≡ true
        → map (row k) (first_changed (has_id id) f refs) ≡ first_changed (is_at kind id) (row_by f) (map (row k) refs)
        → map (row k) (cond u (f r ∷ refs) (r ∷ first_changed (has_id id) f refs))
        ≡ cond (t && u) (row k (f r) ∷ map (row k) refs)
        (row k r ∷ first_changed (is_at kind id) (row_by f) (map (row k) refs))
    step true true h e = refl
    step true false h e = ap (λ l. row k r ∷ l) e
    step false u h e = cc

-- the first resource of the type and the ID is changed in its place
abbrev pub groups_by : ℕ → ℤ → (Ref → Ref) → List Group → List Group
groups_by kind id f groups =
    first_changed (has_resource kind id) (λ (g : Group). record g { refs = first_changed (has_id id) f g.refs }) groups

pub changed_rows : (kind : ℕ) (id : ℤ) (f : Ref → Ref) (groups : List Group)
    → rows (groups_by kind id f groups) ≡ first_changed (is_at kind id) (row_by f) (rows groups)
changed_rows kind id f [] = refl
changed_rows kind id f (g ∷ groups) =
    step (g.kind == kind) (is_some (find (has_id id) g.refs)) refl (changed_rows kind id f groups)
    ∙ sym (changed_append (is_at kind id) (row_by f) (group_rows g) (rows groups)
    ∙ ap (λ (t : Bool). cond t (first_changed (is_at kind id) (row_by f) (group_rows g) ++ rows groups)
    (group_rows g ++ first_changed (is_at kind id) (row_by f) (rows groups))) (passes_in kind g.kind id g.refs))
  where
    step : (t u : Bool) → (g.kind == kind) ≡ t
        → rows (groups_by kind id f groups) ≡ first_changed (is_at kind id) (row_by f) (rows groups)
        → rows (cond (t && u) (record g { refs = first_changed (has_id id) f g.refs } ∷ groups)
        (g ∷ groups_by kind id f groups))
        ≡ cond (t && u) (first_changed (is_at kind id) (row_by f) (group_rows g) ++ rows groups)
        (group_rows g ++ first_changed (is_at kind id) (row_by f) (rows groups))
    step true true h e = ap (λ l. l ++ rows groups) (group_changed_rows kind g.kind id f g.refs h)
    step true false h e = ap (λ l. group_rows g ++ l) e
    step false u h e = ap (λ l. group_rows g ++ l) e

-- a resource of the type and the ID is found where a group has it
pub found_in : (kind : ℕ) (id : ℤ) (groups : List Group)
    → list_any (has_resource kind id) groups ≡ is_some (find (is_at kind id) (rows groups))
found_in kind id [] = refl
found_in kind id (g ∷ groups) =
    step (find (is_at kind id) (group_rows g)) (find (is_at kind id) (rows groups)) (has_resource kind id g)
    (passes_in kind g.kind id g.refs) (found_in kind id groups)
    ∙ sym (ap is_some (find_append (is_at kind id) (group_rows g) (rows groups)))
  where
    step : (a b : Option Row) (t : Bool) → is_some a ≡ t → list_any (has_resource kind id) groups ≡ is_some b
        → (t || list_any (has_resource kind id) groups) ≡ is_some (cond (is_some a) a b)
    step (Some x) b true h e = refl
    step (Some x) b false h e = cc
    step None b true h e = cc
    step None b false h e = e

-- an item stands among others
record Among {A : Type 0} (x : A) (all more : List A) : Type 0 where
  before : List A
  after : List A
  split : all ≡ before ++ after
  there : more ≡ before ++ x ∷ after

-- a resource that is put into a group stands among those that there were
put_among : (kind : ℕ) (r : Ref) (groups : List Group)
    → Among (row kind r) (rows groups) (rows (put (one_group kind r) groups))
put_among kind r [] = record { before = []; after = []; split = refl; there = refl }
put_among kind r (g ∷ groups) = step (g.kind == kind) refl (put_among kind r groups)
  where
    step : (t : Bool) → (g.kind == kind) ≡ t → Among (row kind r) (rows groups) (rows (put (one_group kind r) groups))
        → Among (row kind r) (group_rows g ++ rows groups)
        (rows (cond t (record g { refs = g.refs ++ r ∷ [] } ∷ groups) (g ∷ put (one_group kind r) groups)))
    step true h e = record {
      before = group_rows g;
      after = rows groups;
      split = refl;
      there = ap (λ l. l ++ rows groups) (map-append (row g.kind) g.refs (r ∷ []))
          ∙ append_assoc (group_rows g) (row g.kind r ∷ []) (rows groups)
          ∙ ap (λ k. group_rows g ++ row k r ∷ rows groups) (eqb-true g.kind kind h);
    }
    step false h e = record {
      before = group_rows g ++ e.before;
      after = e.after;
      split = ap (λ l. group_rows g ++ l) e.split ∙ sym (append_assoc (group_rows g) e.before e.after);
      there = ap (λ l. group_rows g ++ l) e.there ∙ sym (append_assoc (group_rows g) e.before (row kind r ∷ e.after));
    }

-- the only item that passes is found, and the others are those around it
only_found : {A : Type 0} (p : A → Bool) (x : A) (xs ys : List A) → p x ≡ true → find p (xs ++ ys) ≡ None
    → find p (xs ++ x ∷ ys) ≡ Some x
only_found p x [] ys passes none = here (p x) passes
  where
    here : (t : Bool) → t ≡ true → cond t (Some x) (find p ys) ≡ Some x
    here true h = refl
    here false h = cc
only_found p x (z ∷ xs) ys passes none = later (p z) (only_found p x xs ys passes) none
  where
    later : (t : Bool) → (find p (xs ++ ys) ≡ None → find p (xs ++ x ∷ ys) ≡ Some x)
        → cond t (Some z) (find p (xs ++ ys)) ≡ None → cond t (Some z) (find p (xs ++ x ∷ ys)) ≡ Some x
    later true h e = cc
    later false h e = h e

only_other : {A : Type 0} (p : A → Bool) (x : A) (xs ys : List A) → p x ≡ true → find p (xs ++ ys) ≡ None
    → others p (xs ++ x ∷ ys) ≡ xs ++ ys
only_other p x [] ys passes none = here (p x) passes
  where
    here : (t : Bool) → t ≡ true → cond t ys (x ∷ others p ys) ≡ ys
    here true h = refl
    here false h = cc
only_other p x (z ∷ xs) ys passes none = later (p z) (only_other p x xs ys passes) none
  where
    later : (t : Bool) → (find p (xs ++ ys) ≡ None → others p (xs ++ x ∷ ys) ≡ xs ++ ys)
        → cond t (Some z) (find p (xs ++ ys)) ≡ None → cond t (xs ++ x ∷ ys) (z ∷ others p (xs ++ x ∷ ys)) ≡ z ∷ xs ++ ys
    later true h e = cc
    later false h e = ap (λ l. z ∷ l) (h e)

-- where none passes all are others
pub all_others : {A : Type 0} (p : A → Bool) (xs : List A) → find p xs ≡ None → others p xs ≡ xs
all_others p [] none = refl
all_others p (x ∷ xs) none = cases (p x) (all_others p xs) none
  where
    cases : (t : Bool) → (find p xs ≡ None → others p xs ≡ xs) → cond t (Some x) (find p xs) ≡ None
        → cond t xs (x ∷ others p xs) ≡ x ∷ xs
    cases true h e = cc
    cases false h e = ap (λ l. x ∷ l) (h e)

-- a change that keeps the test changes what is found, and no other
changed_found : {A : Type 0} (p : A → Bool) (f : A → A) (xs : List A) → ((x : A) → p (f x) ≡ p x)
    → find p (first_changed p f xs) ≡ option_map f (find p xs)
changed_found p f [] keeps = refl
changed_found p f (x ∷ xs) keeps = cases (p x) refl (changed_found p f xs keeps)
  where
    cases : (t : Bool) → p x ≡ t → find p (first_changed p f xs) ≡ option_map f (find p xs)
        → find p (cond t (f x ∷ xs) (x ∷ first_changed p f xs)) ≡ option_map f (cond t (Some x) (find p xs))
    cases true h e = rw (keeps x, h) refl
    cases false h e = rw h e

changed_others : {A : Type 0} (p : A → Bool) (f : A → A) (xs : List A) → ((x : A) → p (f x) ≡ p x)
    → others p (first_changed p f xs) ≡ others p xs
changed_others p f [] keeps = refl
changed_others p f (x ∷ xs) keeps = cases (p x) refl (changed_others p f xs keeps)
  where
    cases : (t : Bool) → p x ≡ t → others p (first_changed p f xs) ≡ others p xs
        → others p (cond t (f x ∷ xs) (x ∷ first_changed p f xs)) ≡ cond t xs (x ∷ others p xs)
    cases true h e = rw (keeps x, h) refl
    cases false h e = rw h (ap (λ l. x ∷ l) e)

-- a new resource has its type and its ID
new_passes : (kind : ℕ) (id : ℤ) (change : Change) → is_at kind id (row kind (changed change (blank id))) ≡ true
new_passes kind id change = rw (eq-eqb kind kind refl, (Decides-int_eq id id).1 refl) refl

-- the content in which a resource is set, by whether it was there
there_before : (kind : ℕ) (id : ℤ) (change : Change) (groups : List Group) → is_some (find (is_at kind id) (rows groups)) ≡ true
    → rows (groups_with kind id change groups) ≡ first_changed (is_at kind id) (row_changed change) (rows groups)
there_before kind id change groups is =
    cases (list_any (has_resource kind id) groups) (found_in kind id groups ∙ is)
  where
    cases : (t : Bool) → t ≡ true → rows (cond t (replaced kind id change groups) (added kind id change groups))
        ≡ first_changed (is_at kind id) (row_changed change) (rows groups)
    cases true h = changed_rows kind id (changed change) groups
    cases false h = cc

not_before : (kind : ℕ) (id : ℤ) (change : Change) (groups : List Group) → find (is_at kind id) (rows groups) ≡ None
    → groups_with kind id change groups ≡ put (one_group kind (changed change (blank id))) groups
not_before kind id change groups none =
    cases (list_any (has_resource kind id) groups) (found_in kind id groups ∙ ap is_some none)
  where
    cases : (t : Bool) → t ≡ false → cond t (replaced kind id change groups) (added kind id change groups)
        ≡ put (one_group kind (changed change (blank id))) groups
    cases true h = cc
    cases false h = refl

-- what is found once a resource is set
pub set_found : (kind : ℕ) (id : ℤ) (change : Change) (c : Content)
    → found kind id (with_resource kind id change c) ≡ Some (resource_set kind id change c)
set_found kind id change c = cases (find (is_at kind id) (rows c.groups)) refl
  where
    new : Row
    new = row kind (changed change (blank id))

    cases : (o : Option Row) → find (is_at kind id) (rows c.groups) ≡ o
        → option_map (λ (x : Row). x.resource) (find (is_at kind id) (rows (groups_with kind id change c.groups)))
        ≡ Some (changed change (unwrap_or (option_map (λ (x : Row). x.resource) o) (blank id)))
    cases (Some x) e =
        ap (λ l. option_map (λ (y : Row). y.resource) (find (is_at kind id) l))
        (there_before kind id change c.groups (ap is_some e))
        ∙ ap (option_map (λ (y : Row). y.resource))
        (changed_found (is_at kind id) (row_changed change) (rows c.groups) (λ y. refl)
        ∙ ap (option_map (row_changed change)) e)
    cases None e =
        let s : Among new (rows c.groups) (rows (put (one_group kind (changed change (blank id))) c.groups)) =
        put_among kind (changed change (blank id)) c.groups in
        ap (λ g. option_map (λ (y : Row). y.resource) (find (is_at kind id) (rows g))) (not_before kind id change c.groups e)
        ∙ ap (λ l. option_map (λ (y : Row). y.resource) (find (is_at kind id) l)) s.there
        ∙ ap (option_map (λ (y : Row). y.resource)) (only_found (is_at kind id) new s.before s.after
        (new_passes kind id change) (sym (ap (find (is_at kind id)) s.split) ∙ e))

-- the others stay, in their order
pub set_others : (kind : ℕ) (id : ℤ) (change : Change) (c : Content)
    → others (is_at kind id) (rows (with_resource kind id change c).groups) ≡ others (is_at kind id) (rows c.groups)
set_others kind id change c = cases (find (is_at kind id) (rows c.groups)) refl
  where
    new : Row
    new = row kind (changed change (blank id))

    cases : (o : Option Row) → find (is_at kind id) (rows c.groups) ≡ o
        → others (is_at kind id) (rows (groups_with kind id change c.groups)) ≡ others (is_at kind id) (rows c.groups)
    cases (Some x) e =
        ap (others (is_at kind id)) (there_before kind id change c.groups (ap is_some e))
        ∙ changed_others (is_at kind id) (row_changed change) (rows c.groups) (λ y. refl)
    cases None e =
        let s : Among new (rows c.groups) (rows (put (one_group kind (changed change (blank id))) c.groups)) =
        put_among kind (changed change (blank id)) c.groups in
        ap (λ g. others (is_at kind id) (rows g)) (not_before kind id change c.groups e)
        ∙ ap (others (is_at kind id)) s.there
        ∙ only_other (is_at kind id) new s.before s.after (new_passes kind id change)
        (sym (ap (find (is_at kind id)) s.split) ∙ e)
        ∙ sym s.split ∙ sym (all_others (is_at kind id) (rows c.groups) e)

-- a resource that was there stays in its place, and so does each other
pub set_places : (kind : ℕ) (id : ℤ) (change : Change) (c : Content) → is_some (found kind id c) ≡ true
    → rows (with_resource kind id change c).groups ≡ first_changed (is_at kind id) (row_changed change) (rows c.groups)
set_places kind id change c some =
    there_before kind id change c.groups (cases (find (is_at kind id) (rows c.groups)) some)
  where
    cases : (o : Option Row) → is_some (option_map (λ (x : Row). x.resource) o) ≡ true → is_some o ≡ true
    cases (Some x) h = refl
    cases None h = h
