use Rattle.res_map.proofs.Cited.{◌≡◌, ◌++◌, map, take, drop, moved, lowered}
use Rattle.res_map.proofs.index.lower.Given as goal

-- those that were lowered, with those to come
abbrev pub invariant-loop-i : goal.invariant-loop-i
invariant-loop-i l = l.rows ≡ map (moved (lowered l.from)) (take l.i l.initial.rows) ++ drop l.i l.initial.rows
