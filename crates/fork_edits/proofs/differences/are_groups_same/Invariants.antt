use Rattle.fork_edits.proofs.Cited.{◌≡◌, map, drop, pointwise, view_group, same_group}
use Rattle.fork_edits.proofs.differences.are_groups_same.Given as goal

abbrev pub invariant-loop-i : goal.invariant-loop-i
invariant-loop-i l = pointwise same_group (map view_group (drop l.i l.a)) (map view_group (drop l.i l.b))
    ≡ pointwise same_group (map view_group l.a) (map view_group l.b)
