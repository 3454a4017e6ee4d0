use Rattle.res_map.proofs.Cited.{◌≡◌, ◌++◌, map, take, drop, moved, raised_within}
use Rattle.res_map.proofs.index.raise.Given as goal

-- those that were raised, with those to come
abbrev pub invariant-loop-i : goal.invariant-loop-i
invariant-loop-i l = l.rows ≡ map (moved (raised_within l.from)) (take l.i l.initial.rows) ++ drop l.i l.initial.rows
