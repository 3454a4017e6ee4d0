use Rattle.res_calls.proofs.Cited.{◌≡◌, map, drop, option_map, bytes_eq, split, place, place_from, File, view_file}
use Rattle.res_calls.proofs.chain.place_called.Given as goal

-- what is found in the files that are left is found in all
abbrev pub invariant-loop-i : goal.invariant-loop-i
invariant-loop-i l = place_from l.i (split (λ (f : File). bytes_eq f.name l.name.0.items) (map view_file (drop l.i l.files)))
    ≡ option_map place (split (λ (f : File). bytes_eq f.name l.name.0.items) (map view_file l.files))
