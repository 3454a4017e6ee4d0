use Rattle.res_map.proofs.Cited.{◌≡◌, ◌++◌, map, drop, view_ref, Reference, all_anew, view_reference, view_all}
use Rattle.res_map.proofs.storing.group_of.Given as goal

-- what is stored of the references so far, with what is stored of those to come, is all
abbrev pub invariant-loop-i : goal.invariant-loop-i
invariant-loop-i l = map view_ref l.stored.items ++ map (λ (r : Reference). r.stored)
    (all_anew (view_all (drop l.i l.fresh)) (map view_reference (drop l.i l.refs)))
    ≡ map (λ (r : Reference). r.stored) (all_anew (view_all l.fresh) (map view_reference l.refs))
