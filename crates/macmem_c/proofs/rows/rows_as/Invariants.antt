use Rattle.macmem_c.proofs.Cited.{◌≡◌, ◌++◌, map, drop, view_row, row_as}
use Rattle.macmem_c.proofs.rows.rows_as.Given as goal

abbrev pub invariant-loop-row : goal.invariant-loop-row
invariant-loop-row l =
    l.rows.items ++ map row_as (map view_row (drop l.row-index l.all)) ≡ map row_as (map view_row l.all)
