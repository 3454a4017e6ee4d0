use Rattle.fork_edits.proofs.Cited.{◌≡◌, map, drop, pointwise, view_ref, same_ref}
use Rattle.fork_edits.proofs.differences.are_refs_same.Given as goal

abbrev pub invariant-loop-i : goal.invariant-loop-i
invariant-loop-i l = pointwise same_ref (map view_ref (drop l.i l.a)) (map view_ref (drop l.i l.b))
    ≡ pointwise same_ref (map view_ref l.a) (map view_ref l.b)
