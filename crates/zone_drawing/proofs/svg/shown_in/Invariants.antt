use Rattle.zone_drawing.proofs.Cited.{◌≡◌, ◌++◌, map, drop, shown_in, view_line}
use Rattle.zone_drawing.proofs.svg.shown_in.Given as goal

-- the blocks so far, before those that are still to come
abbrev pub invariant-loop-line : goal.invariant-loop-line
invariant-loop-line l = map view_line l.shown.items ++ shown_in l.window (map view_line (drop l.line-index l.lines))
    ≡ shown_in l.window (map view_line l.lines)
