use Rattle.zone_drawing.proofs.Cited.{◌≡◌, map, drop, same_lines, view_kept}
use Rattle.zone_drawing.proofs.gather.same_lines.Given as goal

-- whether the blocks that are left are the same says whether all are
abbrev pub invariant-loop-line : goal.invariant-loop-line
invariant-loop-line l = same_lines (map view_kept (drop l.line-index l.lines)) (map view_kept l.left)
    ≡ same_lines (map view_kept l.lines) (map view_kept l.others)
