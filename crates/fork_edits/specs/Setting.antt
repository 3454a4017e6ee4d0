use Rattle.std.specs.Prelude.{ℕ, ℤ, Bool, ◌&&◌, ◌==◌, is_some, Option, Some, None, List, [], ◌∷◌, ◌++◌, unwrap_or}
use Rattle.std.specs.Prelude.{if◌then◌else◌}
use Rattle.std.specs.List.{list_any, find}
use Rattle.fork_format.specs.Content.{Ref, Group, Content}
use Rattle.fork_format.specs.Place.{put}
use Rattle.fork_edits.specs.Resources.{Row, has_id, found}

-- A content in which one resource is set: replaced, or added where there is none of its type and ID.
-- More Macintosh Toolbox, chapter 1, "Resource Files".

-- What a resource is set to: its stored data and, where they are given, its name and its attributes.
pub record Change : Type 0 where
  pub datum : List ℕ
  pub name : Option (List ℕ)
  pub attrs : Option ℕ

-- A name that is given, or else the name there was.
abbrev pub name_or : Option (List ℕ) → Option (List ℕ) → Option (List ℕ)
name_or None old = old
name_or (Some name) old = Some name

-- A resource with the change: it keeps its ID, and a name and attributes for which none are given.
abbrev pub changed : Change → Ref → Ref
changed change r = record {
  id = r.id;
  name = name_or change.name r.name;
  attrs = unwrap_or change.attrs r.attrs;
  datum = change.datum;
}

-- A resource with no name, attributes 0 and no stored data.
abbrev pub blank : ℤ → Ref
blank id = record { id = id; name = None; attrs = 0; datum = [] }

-- The list with the first item changed that passes the test.
abbrev pub first_changed : {A : Type 0} → (A → Bool) → (A → A) → List A → List A
first_changed test change [] = []
first_changed test change (x ∷ xs) = if test x then change x ∷ xs else x ∷ first_changed test change xs

-- A resource of the type and the ID is in the group.
abbrev pub has_resource : ℕ → ℤ → Group → Bool
has_resource kind id g = g.kind == kind && is_some (find (has_id id) g.refs)

-- The group with its first resource of an ID changed.
abbrev pub group_changed : ℤ → Change → Group → Group
group_changed id change g = record g { refs = first_changed (has_id id) (changed change) g.refs }

-- The groups with the first resource of a type and an ID changed.
abbrev pub replaced : ℕ → ℤ → Change → List Group → List Group
replaced kind id change groups = first_changed (has_resource kind id) (group_changed id change) groups

-- A group of one resource.
abbrev pub one_group : ℕ → Ref → Group
one_group kind r = record { kind = kind; refs = r ∷ [] }

-- The group with one more resource.
abbrev pub with_one : Ref → Group → Group
with_one r g = record g { refs = g.refs ++ r ∷ [] }

-- The groups with one more resource: the last one of its type, or in a group of its own at the end where its type is new.
abbrev pub added : ℕ → ℤ → Change → List Group → List Group
added kind id change groups = put (one_group kind (changed change (blank id))) groups

-- The groups in which the resource of a type and an ID is set.
abbrev pub groups_with : ℕ → ℤ → Change → List Group → List Group
groups_with kind id change groups =
    if list_any (has_resource kind id) groups then replaced kind id change groups else added kind id change groups

-- The content in which the resource of a type and an ID is set.
abbrev pub with_resource : ℕ → ℤ → Change → Content → Content
with_resource kind id change c = record c { groups = groups_with kind id change c.groups }

-- The resource that is set: the change of the first resource of the type and the ID, or of a blank one.
abbrev pub resource_set : ℕ → ℤ → Change → Content → Ref
resource_set kind id change c = changed change (unwrap_or (found kind id c) (blank id))

-- A resource with its type, once it is changed.
abbrev pub row_changed : Change → Row → Row
row_changed change x = record x { resource = changed change x.resource }
