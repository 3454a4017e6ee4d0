use Rattle.std.specs.Prelude.{ℕ, ℤ, Bool, true, false, ◌&&◌, ◌||◌, ◌==◌, not, Option, Some, None, List, [], ◌∷◌, ◌++◌, map}
use Rattle.std.specs.Prelude.{if◌then◌else◌, bytes_eq}
use Rattle.std.specs.List.{find}
use Rattle.std.specs.Cmp.Lexicographic.{pointwise}
use Rattle.std.specs.Ordering.{int_eq}
use Rattle.fork_format.specs.Content.{Ref, Group, Content}
use Rattle.fork_edits.specs.Resources.{Row, rows, is_at, others}

-- How two contents differ.
-- More Macintosh Toolbox, chapter 1, "Resource Files" and "Resource File Format".

-- What differs between two resources of one type and ID: the names, the attributes, the stored data.
pub record Parts : Type 0 where
  pub name : Bool
  pub attrs : Bool
  pub datum : Bool

-- A difference: the 240 bytes after the header; the attributes of the map; a resource that only the first content has;
-- parts of a resource of a type and an ID; a resource that only the second content has; and, where nothing else differs,
-- the order in which the resources stand.
pub data Difference : Type 0 where
  Area : Difference
  MapAttrs : Difference
  Removed : (old : Row) → Difference
  Changed : (kind : ℕ) (id : ℤ) (parts : Parts) → Difference
  Added : (new : Row) → Difference
  Order : Difference

-- Both have no name, or the same name.
abbrev pub same_name : Option (List ℕ) → Option (List ℕ) → Bool
same_name None None = true
same_name None (Some name) = false
same_name (Some name) None = false
same_name (Some name) (Some text) = bytes_eq name text

-- The resources are the same in all parts.
abbrev pub same_ref : Ref → Ref → Bool
same_ref r s = int_eq r.id s.id && same_name r.name s.name && r.attrs == s.attrs && bytes_eq r.datum s.datum

-- The groups are of one type, and hold the same resources in the same order.
abbrev pub same_group : Group → Group → Bool
same_group g h = g.kind == h.kind && pointwise same_ref g.refs h.refs

-- The contents are the same.
abbrev pub same_content : Content → Content → Bool
same_content c d = bytes_eq c.area d.area && c.attrs == d.attrs && pointwise same_group c.groups d.groups

-- The parts in which two resources differ.
abbrev pub parts : Ref → Ref → Parts
parts r s = record {
  name = not (same_name r.name s.name);
  attrs = not (r.attrs == s.attrs);
  datum = not (bytes_eq r.datum s.datum);
}

-- Some part differs.
abbrev pub is_some_part : Parts → Bool
is_some_part p = p.name || p.attrs || p.datum

-- The difference of two resources of one type and ID, if they differ.
abbrev pub changes : Row → Row → List Difference
changes r s = if is_some_part (parts r.resource s.resource)
    then Changed r.kind r.resource.id (parts r.resource s.resource) ∷ [] else []

-- The resource has the type and the ID of another.
abbrev pub is_same : Row → Row → Bool
is_same r s = is_at r.kind r.resource.id s

-- The difference of a resource and its counterpart, if it has one.
abbrev pub compared : Row → Option Row → List Difference
compared r None = Removed r ∷ []
compared r (Some s) = changes r s

-- The differences of resources, in order. Each has as its counterpart the first one of its type and ID that is no other's
-- counterpart yet; those that are no one's counterpart were added.
abbrev pub matched : List Row → List Row → List Difference
matched [] news = map Added news
matched (r ∷ olds) news = compared r (find (is_same r) news) ++ matched olds (others (is_same r) news)

-- The same in two walks: the differences of resources and their counterparts, and the resources that are no one's
-- counterpart, each walk with what is left of the others.
abbrev pub paired : List Row → List Row → List Difference
paired [] news = []
paired (r ∷ olds) news = compared r (find (is_same r) news) ++ paired olds (others (is_same r) news)

abbrev pub alone : Row → Option Row → List Row
alone s None = s ∷ []
alone s (Some r) = []

abbrev pub unmatched : List Row → List Row → List Row
unmatched [] olds = []
unmatched (s ∷ news) olds = alone s (find (is_same s) olds) ++ unmatched news (others (is_same s) olds)

-- The difference where a test passes.
abbrev pub noted : Bool → Difference → List Difference
noted test d = if test then d ∷ [] else []

-- The differences of areas and map attributes.
abbrev pub map_differences : Content → Content → List Difference
map_differences c d = noted (not (bytes_eq c.area d.area)) Area ++ noted (not (c.attrs == d.attrs)) MapAttrs

-- The differences of areas, map attributes and resources.
abbrev pub found_differences : Content → Content → List Difference
found_differences c d = map_differences c d ++ matched (rows c.groups) (rows d.groups)

-- The differences; where nothing else differs, the order does.
abbrev pub or_order : List Difference → List Difference
or_order [] = Order ∷ []
or_order (d ∷ differences) = d ∷ differences

-- How two contents differ: in nothing where they are the same.
abbrev pub differences : Content → Content → List Difference
differences c d = if same_content c d then [] else or_order (found_differences c d)
