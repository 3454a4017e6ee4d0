use Rattle.zone_drawing.proofs.Cited.{◌≡◌, ◌++◌, map, drop, view_line, view_kept}
use Rattle.zone_drawing.proofs.kept.lent_of.Given as goal

-- the lines so far, before those that are still to come
abbrev pub invariant-loop-line : goal.invariant-loop-line
invariant-loop-line l = map view_line l.lines.items ++ map view_kept (drop l.line-index l.kept) ≡ map view_kept l.kept
