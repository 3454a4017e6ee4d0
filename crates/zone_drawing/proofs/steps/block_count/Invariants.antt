use Rattle.zone_drawing.proofs.Cited.{◌≡◌, ◌+◌, ◌*◌, ◌≤◌, map, drop, block_count, view_moment}
use Rattle.zone_drawing.proofs.steps.block_count.Given as goal

-- those that were counted, and those to come, are all
abbrev pub invariant-loop-moment : goal.invariant-loop-moment
invariant-loop-moment l = (l.count + block_count (map view_moment (drop l.moment-index l.moments))
    ≡ block_count (map view_moment l.moments)) × (l.count ≤ 18446744073709551615 * l.moment-index)
