use Rattle.res_map.proofs.Cited.{◌≡◌, ℕ, ◌<◌, Bool, true, false, cond, List, [], ◌∷◌, ◌++◌, length, Option, Some, None, refl, sym, ◌∙◌, ap}
use Rattle.res_map.proofs.Cited.{arith, suc, zero, map, get_or, IfSome, subst, option_map, slice_get, slice_set, ◌==◌, Split, split, behind}
use Rattle.res_map.proofs.Cited.{replaced, removed, place, slice_get_within, split_nth}
use Rattle.std.specs.Prelude.{remove, ◌&&◌, ◌-◌}

-- An item of a list in its place, and the same by its index.

-- the item at its place; another one put there; the list without it
pub get-replaced : {A : Type 0} (before : List A) (x : A) (after : List A)
    → slice_get (before ++ x ∷ after) (length before) ≡ Some x
get-replaced [] x after = refl
get-replaced (b ∷ before) x after = get-replaced before x after

pub set-replaced : {A : Type 0} (before : List A) (x y : A) (after : List A)
    → slice_set (before ++ x ∷ after) (length before) y ≡ before ++ y ∷ after
set-replaced [] x y after = refl
set-replaced (b ∷ before) x y after = ap (λ l. b ∷ l) (set-replaced before x y after)

pub remove-replaced : {A : Type 0} (before : List A) (x : A) (after : List A)
    → remove (before ++ x ∷ after) (length before) ≡ before ++ after
remove-replaced [] x after = refl
remove-replaced (b ∷ before) x after = ap (λ l. b ∷ l) (remove-replaced before x after)

-- what a split seen with one item more before it comes from
behind_of : {A : Type 0} (x : A) (o : Option (Split A)) (at : Split A) → option_map (behind x) o ≡ Some at
    → (inner : Split A) × ((o ≡ Some inner) × (behind x inner ≡ at))
behind_of x None at e = cc
behind_of x (Some inner) at e = (inner, (refl, cc))

-- the item that is found passes
pub split-passes : {A : Type 0} (test : A → Bool) (xs : List A) (at : Split A) → split test xs ≡ Some at
    → test at.here ≡ true
split-passes test [] at e = cc
split-passes {A = A} test (x ∷ xs) at e = cases (test x) refl (split-passes test xs) e
  where
    cases : (t : Bool) → test x ≡ t → ((at : Split A) → split test xs ≡ Some at → test at.here ≡ true)
        → cond t (Some (record { before = []; here = x; after = xs })) (option_map (behind x) (split test xs)) ≡ Some at
        → test at.here ≡ true
    cases true is again e =
        let whole : (let s : Split A = record { before = []; here = x; after = xs } in s) ≡ at = cc in
        ap (λ (s : Split A). test s.here) (sym whole) ∙ is
    cases false is again e =
        let inner = behind_of x (split test xs) at e in
        ap (λ (s : Split A). test s.here) (sym inner.1.1) ∙ again inner.0 inner.1.0

-- the list around it is the whole list
whole_behind : {A : Type 0} (x : A) (o : Option (Split A)) (xs : List A)
    → ((at : Split A) → o ≡ Some at → replaced at.here at ≡ xs) → (at : Split A) → option_map (behind x) o ≡ Some at
    → replaced at.here at ≡ x ∷ xs
whole_behind {A = A} x o xs again at e =
    let inner = behind_of x o at e in
    ap (λ (s : Split A). replaced s.here s) (sym inner.1.1) ∙ ap (λ l. x ∷ l) (again inner.0 inner.1.0)

whole_here : {A : Type 0} (x : A) (xs : List A) (at : Split A)
    → Some (let s : Split A = record { before = []; here = x; after = xs } in s) ≡ Some at
    → replaced at.here at ≡ x ∷ xs
whole_here {A = A} x xs at e =
    let is : (let s : Split A = record { before = []; here = x; after = xs } in s) ≡ at = cc in
    ap (λ (s : Split A). replaced s.here s) (sym is)

pub split-whole : {A : Type 0} (test : A → Bool) (xs : List A) (at : Split A) → split test xs ≡ Some at
    → replaced at.here at ≡ xs
split-whole test [] at e = cc
split-whole {A = A} test (x ∷ xs) at e = cases (test x) (split-whole test xs) e
  where
    cases : (t : Bool) → ((at : Split A) → split test xs ≡ Some at → replaced at.here at ≡ xs)
        → cond t (Some (record { before = []; here = x; after = xs })) (option_map (behind x) (split test xs)) ≡ Some at
        → replaced at.here at ≡ x ∷ xs
    cases true again e = whole_here x xs at e
    cases false again e = whole_behind x (split test xs) xs again at e

pub split_nth-whole : {A : Type 0} (n : ℕ) (test : A → Bool) (xs : List A) (at : Split A)
    → split_nth n test xs ≡ Some at → replaced at.here at ≡ xs
split_nth-whole n test [] at e = cc
split_nth-whole {A = A} n test (x ∷ xs) at e =
    cases (test x && n == 1) (cond (test x) (n - 1) n) (λ m. split_nth-whole m test xs) e
  where
    cases : (t : Bool) (m : ℕ)
        → ((m : ℕ) (at : Split A) → split_nth m test xs ≡ Some at → replaced at.here at ≡ xs)
        → cond t (Some (record { before = []; here = x; after = xs })) (option_map (behind x) (split_nth m test xs))
        ≡ Some at → replaced at.here at ≡ x ∷ xs
    cases true m again e = whole_here x xs at e
    cases false m again e = whole_behind x (split_nth m test xs) xs (again m) at e

-- an item that is found, by its index
pub get-whole : {A : Type 0} (xs : List A) (at : Split A) → replaced at.here at ≡ xs
    → slice_get xs (place at) ≡ Some at.here
get-whole xs at whole = ap (λ l. slice_get l (place at)) (sym whole) ∙ get-replaced at.before at.here at.after

pub set-whole : {A : Type 0} (xs : List A) (y : A) (at : Split A) → replaced at.here at ≡ xs
    → slice_set xs (place at) y ≡ replaced y at
set-whole xs y at whole =
    ap (λ l. slice_set l (place at) y) (sym whole) ∙ set-replaced at.before at.here y at.after

pub remove-whole : {A : Type 0} (xs : List A) (at : Split A) → replaced at.here at ≡ xs
    → remove xs (place at) ≡ removed at
remove-whole xs at whole =
    ap (λ l. remove l (place at)) (sym whole) ∙ remove-replaced at.before at.here at.after

pub inside-whole : {A : Type 0} (xs : List A) (at : Split A) → replaced at.here at ≡ xs → place at < length xs
inside-whole xs at whole = slice_get_within xs (place at) at.here (get-whole xs at whole)

-- what is said of the item at the index
pub some-whole : {A : Type 0} (P : A → Type 0) (xs : List A) (at : Split A) → replaced at.here at ≡ xs
    → IfSome (slice_get xs (place at)) P → P at.here
some-whole {A = A} P xs at whole h = subst (λ (o : Option A). IfSome o P) (get-whole xs at whole) h

pub split-get : {A : Type 0} (test : A → Bool) (xs : List A) (at : Split A) → split test xs ≡ Some at
    → slice_get xs (place at) ≡ Some at.here
split-get test xs at e = get-whole xs at (split-whole test xs at e)

pub split-set : {A : Type 0} (test : A → Bool) (xs : List A) (y : A) (at : Split A) → split test xs ≡ Some at
    → slice_set xs (place at) y ≡ replaced y at
split-set test xs y at e = set-whole xs y at (split-whole test xs at e)

pub split-inside : {A : Type 0} (test : A → Bool) (xs : List A) (at : Split A) → split test xs ≡ Some at
    → place at < length xs
split-inside test xs at e = inside-whole xs at (split-whole test xs at e)

-- what a place that was found, or none, tells of the split
pub found-place : {A : Type 0} (o : Option (Split A)) (i : ℕ) → Some i ≡ option_map place o
    → (at : Split A) × ((o ≡ Some at) × (i ≡ place at))
found-place None i e = cc
found-place (Some at) i e = (at, (refl, cc))

pub found-none : {A : Type 0} (o : Option (Split A)) → None ≡ option_map place o → o ≡ None
found-none None e = refl
found-none (Some at) e = cc

-- a place inside the list has an item
pub get-inside : {A : Type 0} (xs : List A) (i : ℕ) → i < length xs → slice_get xs i ≡ None → ⊥
get-inside [] i inside e = omega arith
get-inside (x ∷ xs) zero inside e = cc
get-inside (x ∷ xs) (suc i) inside e = get-inside xs i (omega arith) e

-- an item that is changed, as the view sees it
pub set-seen : {X A : Type 0} (view : X → A) (f : A → A) (xs : List X) (i : ℕ) (d y : X) → i < length xs
    → view y ≡ f (view (get_or xs i d))
    → IfSome (slice_get (map view xs) i) (λ r. map view (slice_set xs i y) ≡ slice_set (map view xs) i (f r))
set-seen view f [] i d y inside seen = omega arith
set-seen view f (z ∷ xs) zero d y inside seen = ap (λ a. a ∷ map view xs) seen
set-seen {A = A} view f (z ∷ xs) (suc i) d y inside seen = cases (slice_get (map view xs) i)
    (set-seen view f xs i d y (omega arith) seen)
  where
    cases : (o : Option A) → IfSome o (λ r. map view (slice_set xs i y) ≡ slice_set (map view xs) i (f r))
        → IfSome o (λ r. view z ∷ map view (slice_set xs i y) ≡ view z ∷ slice_set (map view xs) i (f r))
    cases None h = h
    cases (Some r) h = ap (λ l. view z ∷ l) h

-- the same where the item was read at its index
pub set-seen_at : {X A : Type 0} (view : X → A) (f : A → A) (xs : List X) (i : ℕ) (x y : X) → i < length xs
    → x ≡ get_or xs i x → view y ≡ f (view x)
    → IfSome (slice_get (map view xs) i) (λ r. map view (slice_set xs i y) ≡ slice_set (map view xs) i (f r))
set-seen_at view f xs i x y inside is seen =
    set-seen view f xs i x y inside (seen ∙ ap (λ z. f (view z)) is)

-- an item that was changed, of which the view sees nothing
pub same-seen_at : {X A : Type 0} (view : X → A) (xs : List X) (i : ℕ) (x y : X) → i < length xs
    → x ≡ get_or xs i x → view y ≡ view x → map view (slice_set xs i y) ≡ map view xs
same-seen_at view [] i x y inside is seen = refl
same-seen_at view (z ∷ xs) zero x y inside is seen = ap (λ a. a ∷ map view xs) (seen ∙ ap view is)
same-seen_at view (z ∷ xs) (suc i) x y inside is seen =
    ap (λ l. view z ∷ l) (same-seen_at view xs i x y (omega arith) is seen)
