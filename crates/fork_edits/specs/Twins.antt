use Rattle.std.specs.Prelude.{is_some, Option, Some, None, List, [], ◌∷◌, if◌then◌else◌}
use Rattle.std.specs.List.{find}
use Rattle.fork_edits.specs.Resources.{Row}
use Rattle.fork_edits.specs.Differences.{is_same}

-- Resources of one type and ID.
-- More Macintosh Toolbox, chapter 1, "Resource Files".

-- The first resource whose type and ID another one after it has.
abbrev pub twin : List Row → Option Row
twin [] = None
twin (r ∷ rows) = if is_some (find (is_same r) rows) then Some r else twin rows
