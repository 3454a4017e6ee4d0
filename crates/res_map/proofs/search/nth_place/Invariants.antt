use Rattle.res_map.proofs.Cited.{◌≡◌, map, drop, option_map, place, is_of, split_nth, view_reference}
use Rattle.res_map.proofs.Steps.{place_from}
use Rattle.res_map.proofs.search.nth_place.Given as goal

-- what is found in the references that are left is found in all
abbrev pub invariant-loop-i : goal.invariant-loop-i
invariant-loop-i l = place_from l.i (split_nth l.left (is_of l.kind) (map view_reference (drop l.i l.refs)))
    ≡ option_map place (split_nth l.n (is_of l.kind) (map view_reference l.refs))
