use Rattle.res_calls.proofs.Cited.{◌≡◌, map, drop, option_map, find, spot_of, is_searched, is_wanted, view_open}
use Rattle.res_calls.proofs.Finding.{spot_from}
use Rattle.res_calls.proofs.find.find_spot.Given as goal

-- what is found in the files that are left is found in all
abbrev pub invariant-loop-i : goal.invariant-loop-i
invariant-loop-i l =
    spot_from l.i (find (is_searched l.within) (is_wanted l.wanted) (map view_open (drop l.i l.files)))
    ≡ option_map spot_of (find (is_searched l.within) (is_wanted l.wanted) (map view_open l.files))
