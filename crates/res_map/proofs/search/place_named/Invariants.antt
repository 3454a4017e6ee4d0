use Rattle.res_map.proofs.Cited.{◌≡◌, map, drop, split, is_named, view_reference}
use Rattle.res_map.proofs.Steps.{place_from}
use Rattle.res_map.proofs.search.place_named.Given as goal

-- what is found in the references that are left is found in those from the place on
abbrev pub invariant-loop-i : goal.invariant-loop-i
invariant-loop-i l = place_from l.i (split (is_named l.kind l.text) (map view_reference (drop l.i l.refs)))
    ≡ place_from l.from (split (is_named l.kind l.text) (map view_reference (drop l.from l.refs)))
