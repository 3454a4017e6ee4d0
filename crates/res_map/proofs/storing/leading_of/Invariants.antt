use Rattle.res_map.proofs.Cited.{◌≡◌, ◌+◌, map, drop, leading_count, view_reference}
use Rattle.res_map.proofs.storing.leading_of.Given as goal

-- those that were counted, with those to come, are all
abbrev pub invariant-loop-i : goal.invariant-loop-i
invariant-loop-i l = l.i + leading_count l.kind (map view_reference (drop l.i l.refs)) ≡ leading_count l.kind
    (map view_reference l.refs)
