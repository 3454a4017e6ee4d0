use Rattle.std.specs.Prelude.{ℕ, ℤ, Bool, List, [], ◌∷◌, ◌++◌, if◌then◌else◌}
use Rattle.fork_format.specs.Content.{Ref, Group, Content}
use Rattle.fork_edits.specs.Resources.{has_id, others}
use Rattle.fork_edits.specs.Setting.{has_resource}

-- A content from which one resource is taken out.
-- More Macintosh Toolbox, chapter 1, "Resource Files" and "Resource File Format".

-- The list with other items in the place of the first item that passes the test.
abbrev pub first_replaced : {A : Type 0} → (A → Bool) → (A → List A) → List A → List A
first_replaced test by [] = []
first_replaced test by (x ∷ xs) = if test x then by x ++ xs else x ∷ first_replaced test by xs

-- The group of a type that resources make: no group where there is no resource.
abbrev pub group_with : ℕ → List Ref → List Group
group_with kind [] = []
group_with kind (r ∷ refs) = record { kind = kind; refs = r ∷ refs } ∷ []

-- The group without its first resource of an ID; no group where no resource is left.
abbrev pub group_without : ℤ → Group → List Group
group_without id g = group_with g.kind (others (has_id id) g.refs)

-- The groups without the first resource of a type and an ID.
abbrev pub groups_without : ℕ → ℤ → List Group → List Group
groups_without kind id groups = first_replaced (has_resource kind id) (group_without id) groups

-- The content without the first resource of a type and an ID.
abbrev pub without_resource : ℕ → ℤ → Content → Content
without_resource kind id c = record c { groups = groups_without kind id c.groups }
