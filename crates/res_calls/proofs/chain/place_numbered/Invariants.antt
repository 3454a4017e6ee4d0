use Rattle.res_calls.proofs.Cited.{◌≡◌, map, drop, option_map, split, place, place_from, OpenFile, view_open}
use Rattle.std.specs.Prelude.{◌==◌}
use Rattle.res_calls.proofs.chain.place_numbered.Given as goal

-- what is found in the files that are left is found in all
abbrev pub invariant-loop-i : goal.invariant-loop-i
invariant-loop-i l = place_from l.i (split (λ (f : OpenFile). f.number == l.number) (map view_open (drop l.i l.chain)))
    ≡ option_map place (split (λ (f : OpenFile). f.number == l.number) (map view_open l.chain))
