use Rattle.zone_drawing.proofs.Cited.{◌≡◌, ◌+◌, ◌≤◌, map, drop, counted, view_line}
use Rattle.zone_drawing.proofs.totals.count.Given as goal

-- those that were counted, and those to come, are all
abbrev pub invariant-loop-line : goal.invariant-loop-line
invariant-loop-line l = (l.count + counted l.class (map view_line (drop l.line-index l.lines))
    ≡ counted l.class (map view_line l.lines)) × (l.count ≤ l.line-index)
