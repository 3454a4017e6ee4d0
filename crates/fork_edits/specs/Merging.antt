use Rattle.std.specs.Prelude.{ℕ, ℤ, Bool, is_some, unwrap_or, Option, Some, None, List, [], ◌∷◌, ◌++◌, Result, Ok, Err, if◌then◌else◌}
use Rattle.std.specs.List.{find}
use Rattle.fork_format.specs.Content.{Group, Content}
use Rattle.fork_format.specs.Place.{put}
use Rattle.fork_edits.specs.Resources.{Row, rows, others}
use Rattle.fork_edits.specs.Setting.{one_group}
use Rattle.fork_edits.specs.Differences.{is_same, unmatched}

-- A content that holds the resources of two.
-- More Macintosh Toolbox, chapter 1, "Resource Files" and "Resource File Format".

-- The resources of a first list, each replaced by its counterpart in a second, if it has one: the first one of its type and ID that is no
-- other's counterpart yet.
abbrev pub replaced_by : List Row → List Row → List Row
replaced_by [] news = []
replaced_by (r ∷ olds) news = unwrap_or (find (is_same r) news) r ∷ replaced_by olds (others (is_same r) news)

-- The resources of both: those of the first in order, replaced by their counterparts in the second, and then those of the second that are
-- no one's counterpart.
abbrev pub both : List Row → List Row → List Row
both olds news = replaced_by olds news ++ unmatched news olds

-- A group of a resource.
abbrev pub row_group : Row → Group
row_group x = one_group x.kind x.resource

-- The groups with resources put in, one after another: each the last one of its type, or in a group of its own at the end where its type is
-- new.
abbrev pub with_rows : List Row → List Group → List Group
with_rows [] groups = groups
with_rows (x ∷ xs) groups = with_rows xs (put (row_group x) groups)

-- The first content with the resources of both, by type.
abbrev pub with_both : Content → Content → Content
with_both c d = record c { groups = with_rows (both (rows c.groups) (rows d.groups)) [] }

-- What the first has, or else what the second has.
abbrev pub or_other : {A : Type 0} → Option A → Option A → Option A
or_other (Some a) b = Some a
or_other None b = b

-- The first resource of a list whose type and ID stand in a second list too.
abbrev pub clash : List Row → List Row → Option Row
clash olds news = find (λ r. is_some (find (is_same r) news)) olds

-- The first resource of a list that stands in the way of a second list, unless the second's resources are to replace the first's.
abbrev pub in_the_way : Bool → List Row → List Row → Option Row
in_the_way replaces olds news = if replaces then None else clash olds news

-- A content, or the type and the ID of a resource that stands in the way.
abbrev pub unless : Option Row → Content → Result Content (ℕ × ℤ)
unless None c = Ok c
unless (Some r) c = Err (r.kind, r.resource.id)

-- Two contents merged: refused with the first type and ID that stand in both, unless the second's resources are to replace the first's.
abbrev pub merged : Bool → Content → Content → Result Content (ℕ × ℤ)
merged replaces c d = unless (in_the_way replaces (rows c.groups) (rows d.groups)) (with_both c d)
