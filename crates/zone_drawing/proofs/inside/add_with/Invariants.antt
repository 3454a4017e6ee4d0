use Rattle.zone_drawing.proofs.Cited.{◌≡◌, ◌++◌, map, view_moment}
use Rattle.zone_drawing.proofs.inside.add_with.Given as goal

-- the moments so far, with the strips that are still to come
abbrev pub invariant-loop-strip : goal.invariant-loop-strip
invariant-loop-strip l = map view_moment l.moments.items ++ map view_moment l.strip-iterator.rest.items
    ≡ map view_moment l.initial.moments.items ++ map view_moment l.initial.strip-iterator.rest.items
