use Rattle.zone_drawing.proofs.Cited.{◌≡◌, ◌++◌, map, view_line}
use Rattle.zone_drawing.specs.Svg.{rows_text}
use Rattle.zone_drawing.proofs.svg.push_rows.Given as goal

-- the rows so far
abbrev pub invariant-loop-row : goal.invariant-loop-row
invariant-loop-row l = l.text.items ≡ l.fn.text.items ++ rows_text l.window l.rows l.least l.row (map view_line l.lines)
