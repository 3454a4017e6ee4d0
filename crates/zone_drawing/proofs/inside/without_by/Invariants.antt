use Rattle.zone_drawing.proofs.Cited.{◌≡◌, [], drop, map, get, nat_cmp, without, view_line}
use Rattle.zone_drawing.proofs.inside.without_by.Given as goal

-- the blocks so far, with those that are still to come
abbrev pub invariant-loop-line : goal.invariant-loop-line
invariant-loop-line l = without (get nat_cmp l.others) (map view_line l.left.items) (map view_line (drop l.line-index l.lines))
    ≡ without (get nat_cmp l.others) [] (map view_line l.lines)
