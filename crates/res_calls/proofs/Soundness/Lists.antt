use Rattle.res_calls.proofs.Cited.{◌≡◌, Bool, true, false, ◌||◌, List, [], ◌∷◌, ◌++◌, refl, sym, ◌∙◌, ap, cond, map, Option, Some, None}
use Rattle.res_calls.proofs.Cited.{and_parts, and_from, list_all-append, list_any-append, filter, is_some, option_map, list_all, list_any}
use Rattle.res_calls.proofs.Cited.{flat_map, Split, split, behind, replaced, removed}

-- What holds of each item of a list, and of some item.

module _ {A : Type 0} (p : A → Bool)
  where
    -- items before a place, there, and behind it
    all-parts : (before : List A) (x : A) (after : List A) → list_all p (before ++ x ∷ after) ≡ true
        → (list_all p before ≡ true) × (p x ≡ true) × (list_all p after ≡ true)
    all-parts before x after e =
        let first = and_parts (list_all p before) (list_all p (x ∷ after))
        (sym (list_all-append p before (x ∷ after)) ∙ e) in
        let rest = and_parts (p x) (list_all p after) first.1 in (
          first.0,
          rest.0,
          rest.1,
        )

    all-both : (before after : List A) → list_all p before ≡ true → list_all p after ≡ true
        → list_all p (before ++ after) ≡ true
    all-both before after first later =
        list_all-append p before after ∙ and_from (list_all p before) (list_all p after) first later

    pub all-replaced : (xs : List A) (at : Split A) (y : A) → replaced at.here at ≡ xs
        → (p at.here ≡ true → p y ≡ true) → list_all p xs ≡ true → list_all p (replaced y at) ≡ true
    all-replaced xs at y whole each e =
        let parts = all-parts at.before at.here at.after (ap (list_all p) whole ∙ e) in
        all-both at.before (y ∷ at.after) parts.0 (and_from (p y) (list_all p at.after) (each parts.1) parts.2)

    pub all-removed : (xs : List A) (at : Split A) → replaced at.here at ≡ xs → list_all p xs ≡ true
        → list_all p (removed at) ≡ true
    all-removed xs at whole e =
        let parts = all-parts at.before at.here at.after (ap (list_all p) whole ∙ e) in
        all-both at.before at.after parts.0 parts.2

    pub all-between : (before : List A) (x : A) (after : List A) → list_all p (before ++ after) ≡ true → p x ≡ true
        → list_all p (before ++ x ∷ after) ≡ true
    all-between before x after e passes =
        let parts = and_parts (list_all p before) (list_all p after) (sym (list_all-append p before after) ∙ e) in
        all-both before (x ∷ after) parts.0 (and_from (p x) (list_all p after) passes parts.1)

    -- items that are picked
    pub all-filter : (q : A → Bool) (xs : List A) → list_all p xs ≡ true → list_all p (filter q xs) ≡ true
    all-filter q [] e = refl
    all-filter q (x ∷ xs) e =
        let parts = and_parts (p x) (list_all p xs) e in by_test (q x) parts.0 (all-filter q xs parts.1)
      where
        by_test : (t : Bool) → p x ≡ true → list_all p (filter q xs) ≡ true
            → list_all p (cond t (x ∷ filter q xs) (filter q xs)) ≡ true
        by_test true first later = and_from (p x) (list_all p (filter q xs)) first later
        by_test false first later = later

    -- lists of items, one after another
    pub all-flat : {B : Type 0} (f : B → List A) (xs : List B) → list_all (λ x. list_all p (f x)) xs ≡ true
        → list_all p (flat_map f xs) ≡ true
    all-flat f [] e = refl
    all-flat f (x ∷ xs) e =
        let parts = and_parts (list_all p (f x)) (list_all (λ y. list_all p (f y)) xs) e in
        all-both (f x) (flat_map f xs) parts.0 (all-flat f xs parts.1)

    -- what each item is made of
    pub all-mapped : {B : Type 0} (q : B → Bool) (f : B → A) (xs : List B) → ((x : B) → q x ≡ true → p (f x) ≡ true)
        → list_all q xs ≡ true → list_all p (map f xs) ≡ true
    all-mapped q f [] each e = refl
    all-mapped q f (x ∷ xs) each e =
        let parts = and_parts (q x) (list_all q xs) e in
        and_from (p (f x)) (list_all p (map f xs)) (each x parts.0) (all-mapped q f xs each parts.1)

    pub all-made : {B : Type 0} (f : B → A) (xs : List B) → ((x : B) → p (f x) ≡ true) → list_all p (map f xs) ≡ true
    all-made f [] each = refl
    all-made f (x ∷ xs) each = and_from (p (f x)) (list_all p (map f xs)) (each x) (all-made f xs each)

    pub all-implied : (q : A → Bool) (xs : List A) → ((x : A) → q x ≡ true → p x ≡ true) → list_all q xs ≡ true
        → list_all p xs ≡ true
    all-implied q [] each e = refl
    all-implied q (x ∷ xs) each e =
        let parts = and_parts (q x) (list_all q xs) e in
        and_from (p x) (list_all p xs) (each x parts.0) (all-implied q xs each parts.1)

    -- an item is found where some item passes
    pub split-some : (xs : List A) → is_some (split p xs) ≡ list_any p xs
    split-some [] = refl
    split-some (x ∷ xs) = by_test (p x) (split p xs) (split-some xs)
      where
        by_test : (t : Bool) (o : Option (Split A)) → is_some o ≡ list_any p xs
            → is_some (cond t (Some (record { before = []; here = x; after = xs })) (option_map (behind x) o))
            ≡ (t || list_any p xs)
        by_test true o e = refl
        by_test false None e = e
        by_test false (Some at) e = e

    -- another item that passes just where the one before it did
    pub any-replaced : (before : List A) (x y : A) (after : List A) → p y ≡ p x
        → list_any p (before ++ y ∷ after) ≡ list_any p (before ++ x ∷ after)
    any-replaced before x y after same =
        list_any-append p before (y ∷ after)
        ∙ ap (λ (t : Bool). list_any p before || (t || list_any p after)) same
        ∙ sym (list_any-append p before (x ∷ after))

    -- an item that doesn't pass goes
    pub any-removed : (before : List A) (x : A) (after : List A) → p x ≡ false
        → list_any p (before ++ after) ≡ list_any p (before ++ x ∷ after)
    any-removed before x after other =
        list_any-append p before after
        ∙ ap (λ (t : Bool). list_any p before || (t || list_any p after)) (sym other)
        ∙ sym (list_any-append p before (x ∷ after))
