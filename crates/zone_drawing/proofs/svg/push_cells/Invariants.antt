use Rattle.zone_drawing.proofs.Cited.{◌≡◌, ◌++◌, map, drop, cells, view_line}
use Rattle.zone_drawing.proofs.svg.push_cells.Given as goal

-- what is written, before the cells that are still to be written
abbrev pub invariant-loop-index : goal.invariant-loop-index
invariant-loop-index l = l.text.items ++ cells l.index (map view_line (drop l.index l.lines))
    ≡ l.fn.text.items ++ cells 0 (map view_line l.lines)
