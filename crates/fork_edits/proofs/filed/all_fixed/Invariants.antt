use Rattle.fork_edits.proofs.Cited.{◌≡◌, ◌++◌, drop, map, filed_fixed, view_row, view_filed}
use Rattle.fork_edits.proofs.filed.all_fixed.Given as goal

-- the files so far, with those of the resources to come, are all
abbrev pub invariant-loop-row : goal.invariant-loop-row
invariant-loop-row l = map view_filed l.files.items ++ map filed_fixed (map view_row (drop l.row-index l.rows))
    ≡ map filed_fixed (map view_row l.rows)
