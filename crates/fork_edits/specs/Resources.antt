use Rattle.std.specs.Prelude.{ℕ, ℤ, Bool, ◌&&◌, ◌==◌, Option, List, [], ◌∷◌, map, option_map, if◌then◌else◌}
use Rattle.std.specs.List.{flat_map, find}
use Rattle.std.specs.Ordering.{int_eq}
use Rattle.fork_format.specs.Content.{Ref, Group, Content}

-- The resources of a content one after another, and the first one of a type and an ID.
-- More Macintosh Toolbox, chapter 1, "Resource Files".

-- A resource with its type.
pub record Row : Type 0 where
  pub kind : ℕ
  pub resource : Ref

-- A resource of a type.
abbrev pub row : ℕ → Ref → Row
row kind r = record { kind = kind; resource = r }

-- The resources of a group, each with its type.
abbrev pub group_rows : Group → List Row
group_rows g = map (row g.kind) g.refs

-- All resources of the groups in order, each with its type.
abbrev pub rows : List Group → List Row
rows groups = flat_map group_rows groups

-- The resource has the ID.
abbrev pub has_id : ℤ → Ref → Bool
has_id id r = int_eq r.id id

-- The resource has the type and the ID.
abbrev pub is_at : ℕ → ℤ → Row → Bool
is_at kind id x = x.kind == kind && has_id id x.resource

-- The first resource of a type and an ID, if there is one.
abbrev pub found : ℕ → ℤ → Content → Option Ref
found kind id c = option_map (λ (x : Row). x.resource) (find (is_at kind id) (rows c.groups))

-- The list without the first item that passes the test.
abbrev pub others : {A : Type 0} → (A → Bool) → List A → List A
others test [] = []
others test (x ∷ xs) = if test x then xs else x ∷ others test xs
