use Rattle.fork_edits.proofs.Cited.{◌≡◌, ◌++◌, map, drop, big_number, view_ref, row, view_row}
use Rattle.fork_edits.proofs.resources.push_rows.Given as goal

abbrev pub invariant-loop-r : goal.invariant-loop-r
invariant-loop-r l =
    map view_row l.out.items ++ map (row (big_number 4 l.ty.0)) (map view_ref (drop l.r-index l.group.refs.items))
    ≡ map view_row l.fn.out.items ++ map (row (big_number 4 l.ty.0)) (map view_ref l.group.refs.items)
