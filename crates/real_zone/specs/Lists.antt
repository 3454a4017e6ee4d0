use Rattle.std.specs.Prelude.{List, [], ◌∷◌, Option, Some, None, Bool, true, false}
use Rattle.std.specs.Option.{option_or}

-- The first of a list, if it has any.
abbrev pub first : {A : Type 0} → List A → Option A
first [] = None
first (x ∷ xs) = Some x

-- A list has nothing.
abbrev pub is_empty : {A : Type 0} → List A → Bool
is_empty [] = true
is_empty (x ∷ xs) = false

-- The first thing that a function finds at one of a list, if it finds any.
abbrev pub first_found : {A B : Type 0} → (A → Option B) → List A → Option B
first_found find [] = None
first_found find (x ∷ xs) = option_or (find x) (first_found find xs)
