use Rattle.fork_edits.proofs.Cited.{◌≡◌, ℕ, Bool, true, false, cond, List, [], ◌∷◌, ◌++◌, map, Option, Some, None, refl, ap, sym, ◌∙◌, ℤ}
use Rattle.fork_edits.proofs.Cited.{option_map, is_some, ◌&&◌, ◌==◌, find, Ref, Row, row, has_id, is_at}

-- A search through lists that stand one behind the other.

-- an item is found in the first list, or else in the second
pub find_append : {A : Type 0} (p : A → Bool) (xs ys : List A)
    → find p (xs ++ ys) ≡ cond (is_some (find p xs)) (find p xs) (find p ys)
find_append p [] ys = refl
find_append {A} p (x ∷ xs) ys = step (p x) (find p (xs ++ ys)) (find p xs) (find_append p xs ys)
  where
    step : (t : Bool) (all front : Option A) → all ≡ cond (is_some front) front (find p ys)
        → cond t (Some x) all ≡ cond (is_some (cond t (Some x) front)) (cond t (Some x) front) (find p ys)
    step true all front e = refl
    step false all front e = e

-- what the first list has is found in both
pub find_first : {A B C : Type 0} (p : A → Bool) (f : A → B) (v : C → B) (xs ys : List A) (r : Option C)
    → option_map v r ≡ option_map f (find p xs) → is_some r ≡ true
    → option_map v r ≡ option_map f (find p (xs ++ ys))
find_first {A} {B} {C} p f v xs ys r e some =
    e ∙ ap (option_map f) (sym (find_append p xs ys ∙ cases r (find p xs) e some))
  where
    cases : (r : Option C) (o : Option A) → option_map v r ≡ option_map f o → is_some r ≡ true
        → cond (is_some o) o (find p ys) ≡ o
    cases r (Some x) e s = refl
    cases None None e s = cc
    cases (Some y) None e s = cc

-- what the first list does not have is found in the second
pub find_second : {A B C : Type 0} (p : A → Bool) (f : A → B) (v : C → B) (xs ys : List A) (r : Option C)
    → option_map v r ≡ option_map f (find p xs) → is_some r ≡ false → find p (xs ++ ys) ≡ find p ys
find_second {A} {B} {C} p f v xs ys r e none = find_append p xs ys ∙ cases r (find p xs) e none
  where
    cases : (r : Option C) (o : Option A) → option_map v r ≡ option_map f o → is_some r ≡ false
        → cond (is_some o) o (find p ys) ≡ find p ys
    cases r None e s = refl
    cases None (Some x) e s = cc
    cases (Some y) (Some x) e s = cc

-- among the resources of the type the ID decides
pub find_of_kind : (kind k : ℕ) (id : ℤ) (refs : List Ref) → (k == kind) ≡ true
    → option_map (λ (x : Row). x.resource) (find (is_at kind id) (map (row k) refs)) ≡ find (has_id id) refs
find_of_kind kind k id [] e = refl
find_of_kind kind k id (r ∷ refs) e =
    step (k == kind) (has_id id r) (find (is_at kind id) (map (row k) refs)) e (find_of_kind kind k id refs e)
  where
    step : (t u : Bool) (o : Option Row) → t ≡ true → option_map (λ (x : Row). x.resource) o ≡ find (has_id id) refs
        → option_map (λ (x : Row). x.resource) (cond (t && u) (Some (row k r)) o)
        ≡ cond u (Some r) (find (has_id id) refs)
    step true true o e f = refl
    step true false o e f = f
    step false u o e f = cc

-- among those of another type none is found
pub find_of_other : (kind k : ℕ) (id : ℤ) (refs : List Ref) → (k == kind) ≡ false
    → find (is_at kind id) (map (row k) refs) ≡ None
find_of_other kind k id [] e = refl
find_of_other kind k id (r ∷ refs) e =
    step (k == kind) (has_id id r) (find (is_at kind id) (map (row k) refs)) e (find_of_other kind k id refs e)
  where
    step : (t u : Bool) (o : Option Row) → t ≡ false → o ≡ None → cond (t && u) (Some (row k r)) o ≡ None
    step true u o e f = cc
    step false u o e f = f
