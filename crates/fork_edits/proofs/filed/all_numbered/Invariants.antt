use Rattle.fork_edits.proofs.Cited.{◌≡◌, ◌++◌, ◌+◌, drop, map, numbered_from, view_row, view_filed}
use Rattle.fork_edits.proofs.filed.all_numbered.Given as goal

-- the files so far, with those of the resources to come, are all
abbrev pub invariant-loop-i : goal.invariant-loop-i
invariant-loop-i l = map view_filed l.files.items ++ numbered_from (l.i + 1) (map view_row (drop l.i l.rows))
    ≡ numbered_from 1 (map view_row l.rows)
