use Rattle.std.specs.Prelude.{ℕ, ℤ, Bool, ◌&&◌, not, is_some, Option, Some, None, List, unwrap_or, if◌then◌else◌}
use Rattle.std.specs.Ordering.{int_eq}
use Rattle.fork_format.specs.Content.{Ref, Group, Content}
use Rattle.fork_edits.specs.declared.renaming.RenameFault.{RenameFault}
use Rattle.fork_edits.specs.declared.renaming.RenameFault.TheVariants.{NotFound, Taken}
use Rattle.fork_edits.specs.Resources.{Row, has_id, found}
use Rattle.fork_edits.specs.Setting.{first_changed, has_resource}

-- A content in which one resource has another ID, name or attributes.
-- More Macintosh Toolbox, chapter 1, "Resource Files".

-- What a resource gets, where it is given: an ID, a name or no name, attributes.
pub record Renaming : Type 0 where
  pub id : Option ℤ
  pub name : Option (Option (List ℕ))
  pub attrs : Option ℕ

-- A resource with what it gets: it keeps its stored data, and each part that is not given.
abbrev pub renamed : Renaming → Ref → Ref
renamed new r = record {
  id = unwrap_or new.id r.id;
  name = unwrap_or new.name r.name;
  attrs = unwrap_or new.attrs r.attrs;
  datum = r.datum;
}

-- A resource with its type, once it has what it gets.
abbrev pub row_renamed : Renaming → Row → Row
row_renamed new x = record x { resource = renamed new x.resource }

-- The group in which the first resource of an ID has what it gets.
abbrev pub group_renamed : ℤ → Renaming → Group → Group
group_renamed id new g = record g { refs = first_changed (has_id id) (renamed new) g.refs }

-- The groups in which the first resource of a type and an ID has what it gets.
abbrev pub groups_renamed : ℕ → ℤ → Renaming → List Group → List Group
groups_renamed kind id new groups = first_changed (has_resource kind id) (group_renamed id new) groups

-- The content in which the first resource of a type and an ID has what it gets.
abbrev pub with_renamed : ℕ → ℤ → Renaming → Content → Content
with_renamed kind id new c = record c { groups = groups_renamed kind id new c.groups }

-- The resource gets another ID, which a resource of its type has.
abbrev pub is_taken : ℕ → ℤ → ℤ → Content → Bool
is_taken kind id new c = not (int_eq new id) && is_some (found kind new c)

-- Why a resource of a type and an ID is refused what it would get: there is none, or a resource of the type has its new ID.
abbrev pub refusal : ℕ → ℤ → Renaming → Content → Option RenameFault
refusal kind id new c =
    if not (is_some (found kind id c)) then Some NotFound
    else if is_taken kind id (unwrap_or new.id id) c then Some Taken
    else None
