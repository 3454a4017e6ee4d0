use Rattle.fork_edits.proofs.Cited.{◌≡◌, ℕ, Bool, true, false, cond, List, [], ◌∷◌, Option, Some, None, refl, ap, ◌∙◌, ℤ, option_map}
use Rattle.fork_edits.proofs.Cited.{is_some, unwrap_or, ◌&&◌, ◌||◌, ◌==◌, not, find, list_all, int_eq, Decides-int_eq, and_parts, Content}
use Rattle.fork_edits.proofs.Cited.{Row, rows, is_at, found, others, first_changed, NotFound, Taken, Renaming, renamed, row_renamed}
use Rattle.fork_edits.proofs.Cited.{with_renamed, is_taken, refusal}
use Rattle.fork_edits.proofs.Keeping.{changed_rows}

-- The first item that passes a test, changed so that it passes another, which no item before it passes.

-- an item passes the other test only where it passes the first
abbrev AreApart : {A : Type 0} → (A → Bool) → (A → Bool) → List A → Type 0
AreApart p q xs = list_all (λ x. p x || not (q x)) xs ≡ true

fails : (s t : Bool) → s ≡ false → (s || not t) ≡ true → t ≡ false
fails true t h e = cc
fails false true h e = cc
fails false false h e = refl

moved_found : {A : Type 0} (p q : A → Bool) (f : A → A) (xs : List A) → ((x : A) → p x ≡ true → q (f x) ≡ true)
    → AreApart p q xs → find q (first_changed p f xs) ≡ option_map f (find p xs)
moved_found p q f [] moves apart = refl
moved_found p q f (x ∷ xs) moves apart =
    let each = and_parts (p x || not (q x)) (list_all (λ y. p y || not (q y)) xs) apart in
    cases (p x) refl each.0 (moved_found p q f xs moves each.1)
  where
    cases : (t : Bool) → p x ≡ t → (p x || not (q x)) ≡ true → find q (first_changed p f xs) ≡ option_map f (find p xs)
        → find q (cond t (f x ∷ xs) (x ∷ first_changed p f xs)) ≡ option_map f (cond t (Some x) (find p xs))
    cases true h g e = rw (moves x h) refl
    cases false h g e = rw (fails (p x) (q x) h g) e

moved_others : {A : Type 0} (p q : A → Bool) (f : A → A) (xs : List A) → ((x : A) → p x ≡ true → q (f x) ≡ true)
    → AreApart p q xs → others q (first_changed p f xs) ≡ others p xs
moved_others p q f [] moves apart = refl
moved_others p q f (x ∷ xs) moves apart =
    let each = and_parts (p x || not (q x)) (list_all (λ y. p y || not (q y)) xs) apart in
    cases (p x) refl each.0 (moved_others p q f xs moves each.1)
  where
    cases : (t : Bool) → p x ≡ t → (p x || not (q x)) ≡ true → others q (first_changed p f xs) ≡ others p xs
        → others q (cond t (f x ∷ xs) (x ∷ first_changed p f xs)) ≡ cond t xs (x ∷ others p xs)
    cases true h g e = rw (moves x h) refl
    cases false h g e = rw (fails (p x) (q x) h g) (ap (λ l. x ∷ l) e)

-- so it is with one test, and where no item passes the other
same_apart : {A : Type 0} (p : A → Bool) (xs : List A) → AreApart p p xs
same_apart p [] = refl
same_apart p (x ∷ xs) = cases (p x) (same_apart p xs)
  where
    cases : (t : Bool) → list_all (λ y. p y || not (p y)) xs ≡ true
        → ((t || not t) && list_all (λ y. p y || not (p y)) xs) ≡ true
    cases true e = e
    cases false e = e

none_apart : {A : Type 0} (p q : A → Bool) (xs : List A) → find q xs ≡ None → AreApart p q xs
none_apart p q [] none = refl
none_apart p q (x ∷ xs) none = cases (p x) (q x) none (none_apart p q xs)
  where
    cases : (s t : Bool) → cond t (Some x) (find q xs) ≡ None → (find q xs ≡ None → AreApart p q xs)
        → ((s || not t) && list_all (λ y. p y || not (q y)) xs) ≡ true
    cases s true h e = cc
    cases true false h e = e h
    cases false false h e = e h

-- the resource that was at the ID is at its new one
moves_to : (kind : ℕ) (id : ℤ) (new : Renaming) (x : Row) → is_at kind id x ≡ true
    → is_at kind (unwrap_or new.id id) (row_renamed new x) ≡ true
moves_to kind id new x here =
    let each = and_parts (x.kind == kind) (int_eq x.resource.id id) here in
    let same : x.resource.id ≡ id = (Decides-int_eq x.resource.id id).0 each.1 in
    rw (each.0, same) ((Decides-int_eq (unwrap_or new.id id) (unwrap_or new.id id)).1 refl)

-- no other resource is at the new ID, where it isn't refused
apart_from : (kind : ℕ) (id : ℤ) (new : Renaming) (c : Content) → refusal kind id new c ≡ None
    → AreApart (is_at kind id) (is_at kind (unwrap_or new.id id)) (rows c.groups)
apart_from kind id new c allowed =
    by_id (int_eq (unwrap_or new.id id) id) refl
    (not_taken (is_some (found kind id c)) (is_taken kind id (unwrap_or new.id id) c) allowed)
  where
    not_taken : (s t : Bool) → cond (not s) (Some NotFound) (cond t (Some Taken) None) ≡ None → t ≡ false
    not_taken true true h = cc
    not_taken true false h = refl
    not_taken false t h = cc

    by_none : (o : Option Row) → is_some (option_map (λ (x : Row). x.resource) o) ≡ false → o ≡ None
    by_none (Some x) h = cc
    by_none None h = refl

    by_id : (t : Bool) → int_eq (unwrap_or new.id id) id ≡ t → is_taken kind id (unwrap_or new.id id) c ≡ false
        → AreApart (is_at kind id) (is_at kind (unwrap_or new.id id)) (rows c.groups)
    by_id true h free = rw ((Decides-int_eq (unwrap_or new.id id) id).0 h) (same_apart (is_at kind id) (rows c.groups))
    by_id false h free =
        none_apart (is_at kind id) (is_at kind (unwrap_or new.id id)) (rows c.groups)
        (by_none (find (is_at kind (unwrap_or new.id id)) (rows c.groups)) (rw h at free))

pub renamed_places : (kind : ℕ) (id : ℤ) (new : Renaming) (c : Content)
    → rows (with_renamed kind id new c).groups ≡ first_changed (is_at kind id) (row_renamed new) (rows c.groups)
renamed_places kind id new c = changed_rows kind id (renamed new) c.groups

pub renamed_found : (kind : ℕ) (id : ℤ) (new : Renaming) (c : Content) → refusal kind id new c ≡ None
    → found kind (unwrap_or new.id id) (with_renamed kind id new c) ≡ option_map (renamed new) (found kind id c)
renamed_found kind id new c allowed =
    ap (λ l. option_map (λ (x : Row). x.resource) (find (is_at kind (unwrap_or new.id id)) l)) (renamed_places kind id new c)
    ∙ ap (option_map (λ (x : Row). x.resource)) (moved_found (is_at kind id) (is_at kind (unwrap_or new.id id))
    (row_renamed new) (rows c.groups) (moves_to kind id new) (apart_from kind id new c allowed))
    ∙ cases (find (is_at kind id) (rows c.groups))
  where
    cases : (o : Option Row) → option_map (λ (x : Row). x.resource) (option_map (row_renamed new) o)
        ≡ option_map (renamed new) (option_map (λ (x : Row). x.resource) o)
    cases (Some x) = refl
    cases None = refl

pub renamed_others : (kind : ℕ) (id : ℤ) (new : Renaming) (c : Content) → refusal kind id new c ≡ None
    → others (is_at kind (unwrap_or new.id id)) (rows (with_renamed kind id new c).groups)
    ≡ others (is_at kind id) (rows c.groups)
renamed_others kind id new c allowed =
    ap (others (is_at kind (unwrap_or new.id id))) (renamed_places kind id new c)
    ∙ moved_others (is_at kind id) (is_at kind (unwrap_or new.id id)) (row_renamed new) (rows c.groups)
    (moves_to kind id new) (apart_from kind id new c allowed)
