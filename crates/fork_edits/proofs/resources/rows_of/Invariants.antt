use Rattle.fork_edits.proofs.Cited.{◌≡◌, ◌++◌, map, drop, view_group, rows, view_row}
use Rattle.fork_edits.proofs.resources.rows_of.Given as goal

abbrev pub invariant-loop-group : goal.invariant-loop-group
invariant-loop-group l =
    map view_row l.out.items ++ rows (map view_group (drop l.group-index l.content.groups.items))
    ≡ rows (map view_group l.content.groups.items)
