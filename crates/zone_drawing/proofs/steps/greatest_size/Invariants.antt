use Rattle.zone_drawing.proofs.Cited.{◌≡◌, ◌<◌, ◌^◌, map, drop, max, greatest_size, view_moment}
use Rattle.zone_drawing.proofs.steps.greatest_size.Given as goal

-- the greatest of those so far and of those to come is the greatest of all
abbrev pub invariant-loop-moment : goal.invariant-loop-moment
invariant-loop-moment l = (max l.greatest (greatest_size (map view_moment (drop l.moment-index l.moments)))
    ≡ greatest_size (map view_moment l.moments)) × (l.greatest < 2 ^ 96)
