use Rattle.res_map.proofs.Cited.{◌≡◌, map, drop, option_map, split, place, is_held, view_reference}
use Rattle.res_map.proofs.Steps.{place_from}
use Rattle.res_map.proofs.holding.place_holding.Given as goal

-- what is found in the references that are left is found in all
abbrev pub invariant-loop-i : goal.invariant-loop-i
invariant-loop-i l = place_from l.i (split (is_held l.kind l.key) (map view_reference (drop l.i l.refs)))
    ≡ option_map place (split (is_held l.kind l.key) (map view_reference l.refs))
