use Rattle.zone_drawing.proofs.Cited.{◌≡◌, ◌++◌, map, lines_after, tries_strips, view_kept, view_moment}
use Rattle.zone_drawing.proofs.inside.push_tries.Given as goal

-- the strips so far, with those that are still to come; and the zone after all
abbrev pub invariant-loop-moment : goal.invariant-loop-moment
invariant-loop-moment l = record {
  strips : map view_moment l.strips.items
      ++ tries_strips l.all (map view_kept l.before.items) (map view_moment l.moment-iterator.rest.items)
      ≡ map view_moment l.initial.strips.items
      ++ tries_strips l.all (map view_kept l.initial.before.items) (map view_moment l.initial.moment-iterator.rest.items);
  after : lines_after (map view_kept l.before.items) (map view_moment l.moment-iterator.rest.items)
      ≡ lines_after (map view_kept l.initial.before.items) (map view_moment l.initial.moment-iterator.rest.items);
}
