use Rattle.macmem_c.proofs.Cited.{◌≡◌, ◌++◌, map, drop, flat_map, view_row, listed_line}
use Rattle.macmem_c.proofs.described.lines_of.Given as goal

-- the lines so far, with those of the rows that are left, are the lines of all
abbrev pub invariant-loop-row : goal.invariant-loop-row
invariant-loop-row l =
    l.text.items ++ flat_map listed_line (map view_row (drop l.row-index l.rows)) ≡ flat_map listed_line (map view_row l.rows)
