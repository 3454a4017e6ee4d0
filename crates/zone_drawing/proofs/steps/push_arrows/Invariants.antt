use Rattle.zone_drawing.proofs.Cited.{◌≡◌, ◌++◌, map, drop, get, nat_cmp, arrows, view_line}
use Rattle.zone_drawing.proofs.steps.push_arrows.Given as goal

-- what is written, before the arrows that are still to be written
abbrev pub invariant-loop-line : goal.invariant-loop-line
invariant-loop-line l = l.text.items
    ++ arrows l.window l.least (get nat_cmp l.below) (map view_line (drop l.line-index l.lines))
    ≡ l.fn.text.items ++ arrows l.window l.least (get nat_cmp l.below) (map view_line l.lines)
