use Rattle.std.specs.Prelude.{ℕ, Bool, Option, Some, None, List, [], ◌∷◌, ◌++◌, if◌then◌else◌, option_map, length}

-- An item of a list in its place.

-- An item of a list, with the items before it and the items after it.
pub record Split (A : Type 0) : Type 0 where
  pub before : List A
  pub here : A
  pub after : List A

-- The item in its place, with one item more before it.
abbrev pub behind : {A : Type 0} → A → Split A → Split A
behind x at = record at { before = x ∷ at.before }

-- The first item that passes the test, in its place.
abbrev pub split : {A : Type 0} → (A → Bool) → List A → Option (Split A)
split test [] = None
split test (x ∷ xs) =
    if test x then Some (record { before = []; here = x; after = xs }) else option_map (behind x) (split test xs)

-- The list with another item in that place.
abbrev pub replaced : {A : Type 0} → A → Split A → List A
replaced x at = at.before ++ x ∷ at.after

-- The list without the item.
abbrev pub removed : {A : Type 0} → Split A → List A
removed at = at.before ++ at.after

-- The place of the item, from 0.
abbrev pub place : {A : Type 0} → Split A → ℕ
place at = length at.before
