use Rattle.fork_edits.proofs.Cited.{◌≡◌, ℕ, ◌+◌, ◌<◌, Bool, true, false, cond, List, [], ◌∷◌, ◌++◌, length, Some, None, refl, sym, ◌∙◌, ap}
use Rattle.fork_edits.proofs.Cited.{arith, suc, zero, map, get_or, set, ◌==◌, ◌||◌, list_any, position, position_from, position-Some}
use Rattle.fork_edits.proofs.Cited.{position_from-zero, Group, is_of, put, first_changed}

-- The first item that passes a test, changed in its place; items are seen by a view.

-- another item put at the first place that passes
changed_at : {A B : Type 0} (v : A → B) (p : B → Bool) (f : B → B) (xs : List A) (i : ℕ) (x y : A) → i < length xs
    → p (v (get_or xs i x)) ≡ true → ((k : ℕ) → k < i → p (v (get_or xs k x)) ≡ false) → v y ≡ f (v (get_or xs i x))
    → map v (set xs i y) ≡ first_changed p f (map v xs)
changed_at v p f [] i x y inside passes fail e = absurd (omega arith)
changed_at v p f (z ∷ xs) zero x y inside passes fail e = ap (λ b. b ∷ map v xs) e ∙ taken (p (v z)) passes
  where
    taken : (t : Bool) → t ≡ true
        → f (v z) ∷ map v xs ≡ cond t (f (v z) ∷ map v xs) (v z ∷ first_changed p f (map v xs))
    taken true h = refl
    taken false h = cc
changed_at v p f (z ∷ xs) (suc i) x y inside passes fail e =
    ap (λ l. v z ∷ l) (changed_at v p f xs i x y (omega arith) passes (λ k h. fail (suc k) (omega arith)) e)
    ∙ passed (p (v z)) (fail 0 (omega arith))
  where
    passed : (t : Bool) → t ≡ false → v z ∷ first_changed p f (map v xs)
        ≡ cond t (f (v z) ∷ map v xs) (v z ∷ first_changed p f (map v xs))
    passed true h = cc
    passed false h = refl

pub changed_first : {A B : Type 0} (v : A → B) (p : B → Bool) (f : B → B) (xs : List A) (i : ℕ) (x y : A)
    → position (λ a. p (v a)) xs ≡ Some i → x ≡ get_or xs i x → v y ≡ f (v x)
    → map v (set xs i y) ≡ first_changed p f (map v xs)
changed_first {A} v p f xs i x y found is e =
    let at = position-Some (λ (a : A). p (v a)) xs i x found in
    changed_at v p f xs i x y at.0 at.1 at.2 (e ∙ ap (λ a. f (v a)) is)

-- no item passes
none_from : {A B : Type 0} (v : A → B) (p : B → Bool) (n : ℕ) (xs : List A) → position_from (λ a. p (v a)) n xs ≡ None
    → list_any p (map v xs) ≡ false
none_from v p n [] e = refl
none_from v p n (x ∷ xs) e = cases (p (v x)) (none_from v p (n + 1) xs) e
  where
    cases : (t : Bool) → (position_from (λ a. p (v a)) (n + 1) xs ≡ None → list_any p (map v xs) ≡ false)
        → cond t (Some n) (position_from (λ a. p (v a)) (n + 1) xs) ≡ None → (t || list_any p (map v xs)) ≡ false
    cases true h e = cc
    cases false h e = h e

pub none_passes : {A B : Type 0} (v : A → B) (p : B → Bool) (xs : List A) → position (λ a. p (v a)) xs ≡ None
    → list_any p (map v xs) ≡ false
none_passes {A} v p xs e = none_from v p 0 xs (sym (position_from-zero (λ (a : A). p (v a)) xs) ∙ e)

-- some item passes
some_from : {A B : Type 0} (v : A → B) (p : B → Bool) (n i : ℕ) (xs : List A)
    → position_from (λ a. p (v a)) n xs ≡ Some i → list_any p (map v xs) ≡ true
some_from v p n i [] e = cc
some_from v p n i (x ∷ xs) e = cases (p (v x)) (some_from v p (n + 1) i xs) e
  where
    cases : (t : Bool) → (position_from (λ a. p (v a)) (n + 1) xs ≡ Some i → list_any p (map v xs) ≡ true)
        → cond t (Some n) (position_from (λ a. p (v a)) (n + 1) xs) ≡ Some i → (t || list_any p (map v xs)) ≡ true
    cases true h e = refl
    cases false h e = h e

pub some_passes : {A B : Type 0} (v : A → B) (p : B → Bool) (i : ℕ) (xs : List A) → position (λ a. p (v a)) xs ≡ Some i
    → list_any p (map v xs) ≡ true
some_passes {A} v p i xs e = some_from v p 0 i xs (sym (position_from-zero (λ (a : A). p (v a)) xs) ∙ e)

-- nothing is changed where no item passes
pub first_unchanged : {B : Type 0} (p : B → Bool) (f : B → B) (xs : List B) → list_any p xs ≡ false
    → first_changed p f xs ≡ xs
first_unchanged p f [] none = refl
first_unchanged {B} p f (x ∷ xs) none = cases (p x) (first_unchanged p f xs) none
  where
    cases : (t : Bool) → (list_any p xs ≡ false → first_changed p f xs ≡ xs) → (t || list_any p xs) ≡ false
        → cond t (f x ∷ xs) (x ∷ first_changed p f xs) ≡ x ∷ xs
    cases true h e = cc
    cases false h e = ap (λ l. x ∷ l) (h e)

-- a group put among groups of which one is of its type, and of which none is
abbrev pub joined_by : Group → Group → Group
joined_by g h = record h { refs = h.refs ++ g.refs }

pub put_joined : (g : Group) (groups : List Group) → list_any (is_of g.kind) groups ≡ true
    → put g groups ≡ first_changed (is_of g.kind) (joined_by g) groups
put_joined g [] some = cc
put_joined g (h ∷ groups) some = cases (h.kind == g.kind) (put_joined g groups) some
  where
    cases : (t : Bool)
        → (list_any (is_of g.kind) groups ≡ true → put g groups ≡ first_changed (is_of g.kind) (joined_by g) groups)
        → (t || list_any (is_of g.kind) groups) ≡ true
        → cond t (joined_by g h ∷ groups) (h ∷ put g groups)
        ≡ cond t (joined_by g h ∷ groups) (h ∷ first_changed (is_of g.kind) (joined_by g) groups)
    cases true r e = refl
    cases false r e = ap (λ l. h ∷ l) (r e)

pub put_behind : (g : Group) (groups : List Group) → list_any (is_of g.kind) groups ≡ false
    → put g groups ≡ groups ++ g ∷ []
put_behind g [] none = refl
put_behind g (h ∷ groups) none = cases (h.kind == g.kind) (put_behind g groups) none
  where
    cases : (t : Bool) → (list_any (is_of g.kind) groups ≡ false → put g groups ≡ groups ++ g ∷ [])
        → (t || list_any (is_of g.kind) groups) ≡ false
        → cond t (joined_by g h ∷ groups) (h ∷ put g groups) ≡ h ∷ (groups ++ g ∷ [])
    cases true r e = cc
    cases false r e = ap (λ l. h ∷ l) (r e)

-- an item that was changed, of which the view sees nothing
pub unchanged_at : {A B : Type 0} (v : A → B) (xs : List A) (i : ℕ) (x y : A) → x ≡ get_or xs i x → v y ≡ v x
    → map v (set xs i y) ≡ map v xs
unchanged_at v [] i x y is seen = refl
unchanged_at v (z ∷ xs) zero x y is seen = ap (λ a. a ∷ map v xs) (seen ∙ ap v is)
unchanged_at v (z ∷ xs) (suc i) x y is seen = ap (λ l. v z ∷ l) (unchanged_at v xs i x y is seen)

-- the branch that a test takes
pub chosen : {A : Type 0} (t : Bool) (a b : A) → t ≡ true → a ≡ cond t a b
chosen true a b h = refl
chosen false a b h = cc

pub left : {A : Type 0} (t : Bool) (a b : A) → t ≡ false → b ≡ cond t a b
left true a b h = cc
left false a b h = refl
