use Rattle.zone_drawing.proofs.Cited.{◌≡◌, map, drop, max, longest, view_line}
use Rattle.zone_drawing.proofs.text.widest.Given as goal

-- the longest of those so far and of those to come is the longest of all
abbrev pub invariant-loop-line : goal.invariant-loop-line
invariant-loop-line l = max l.longest (longest (map view_line (drop l.line-index l.lines)))
    ≡ longest (map view_line l.lines)
