use Rattle.res_calls.proofs.Cited.{◌≡◌, map, drop, option_map, split, place, place_from, OpenFile, is_at, view_open}
use Rattle.res_calls.proofs.chain.place_of_file.Given as goal

-- what is found in the files that are left is found in all
abbrev pub invariant-loop-i : goal.invariant-loop-i
invariant-loop-i l = place_from l.i (split (λ (f : OpenFile). is_at l.index f.file) (map view_open (drop l.i l.chain)))
    ≡ option_map place (split (λ (f : OpenFile). is_at l.index f.file) (map view_open l.chain))
