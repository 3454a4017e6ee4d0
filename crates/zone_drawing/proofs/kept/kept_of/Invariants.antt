use Rattle.zone_drawing.proofs.Cited.{◌≡◌, ◌++◌, map, drop, view_line, view_kept}
use Rattle.zone_drawing.proofs.kept.kept_of.Given as goal

-- the lines so far, before those that are still to come
abbrev pub invariant-loop-line : goal.invariant-loop-line
invariant-loop-line l = map view_kept l.kept.items ++ map view_line (drop l.line-index l.lines) ≡ map view_line l.lines
