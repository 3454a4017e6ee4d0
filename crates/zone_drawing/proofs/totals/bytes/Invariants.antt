use Rattle.zone_drawing.proofs.Cited.{◌≡◌, ◌+◌, ◌*◌, ◌≤◌, map, drop, sized, view_line}
use Rattle.zone_drawing.proofs.totals.bytes.Given as goal

-- those that were summed, and those to come, are all
abbrev pub invariant-loop-line : goal.invariant-loop-line
invariant-loop-line l = (l.bytes + sized l.class (map view_line (drop l.line-index l.lines))
    ≡ sized l.class (map view_line l.lines)) × (l.bytes ≤ 4294967296 * l.line-index)
