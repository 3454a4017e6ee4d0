use Rattle.res_calls.proofs.Cited.{◌≡◌, map, drop, option_map, big_number, nth_each, spot_of, view_open}
use Rattle.res_calls.proofs.Finding.{spot_from}
use Rattle.res_calls.proofs.listing.nth_each.Given as goal

-- what is found in the files that are left is found in all
abbrev pub invariant-loop-i : goal.invariant-loop-i
invariant-loop-i l = spot_from l.i (nth_each (big_number 4 l.ty.0) l.left (map view_open (drop l.i l.files)))
    ≡ option_map spot_of (nth_each (big_number 4 l.ty.0) l.n (map view_open l.files))
