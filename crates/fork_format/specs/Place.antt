use Rattle.std.specs.Prelude.{◌≡◌, ℕ, ◌++◌, ◌==◌, List, [], ◌∷◌, Option, Some, None, option_map, if◌then◌else◌, suc}
use Rattle.std.specs.Ordering.{nat_cmp}
use Rattle.std.specs.BTreeMap.{BTreeMap, get}
use Rattle.fork_format.specs.Content.{Group}

-- The groups with one more: its resources stand after those of its type, or it is the last group where the type is new.
abbrev pub put : Group → List Group → List Group
put g [] = g ∷ []
put g (h ∷ groups) = if h.kind == g.kind then record h { refs = h.refs ++ g.refs } ∷ groups else h ∷ put g groups

-- A group of a type with no resource yet.
abbrev pub empty : ℕ → Group
empty kind = record { kind = kind; refs = [] }

-- The groups with a group of the type among them, which is the last where there was no group of the type.
abbrev pub opened : ℕ → List Group → List Group
opened kind groups = put (empty kind) groups

-- The place of the group of a type, if there is one.
abbrev pub place : ℕ → List Group → Option ℕ
place kind [] = None
place kind (g ∷ groups) = if g.kind == kind then Some 0 else option_map suc (place kind groups)

-- The map `places` holds the place of each type's group, and nothing for a type without a group.
abbrev pub ArePlaces : BTreeMap ℕ ℕ → List Group → Type 0
ArePlaces places groups = (kind : ℕ) → get nat_cmp places kind ≡ place kind groups
