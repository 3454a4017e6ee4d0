use Rattle.zone_drawing.proofs.Cited.{◌≡◌, ◌+◌, ◌*◌, ◌≤◌, map, drop, line_sizes, view_line}
use Rattle.zone_drawing.proofs.drawing.line_sizes.Given as goal

-- those that were summed, and those to come, are all
abbrev pub invariant-loop-line : goal.invariant-loop-line
invariant-loop-line l = (l.sum + line_sizes (map view_line (drop l.line-index l.lines))
    ≡ line_sizes (map view_line l.lines)) × (l.sum ≤ 4294967296 * l.line-index)
