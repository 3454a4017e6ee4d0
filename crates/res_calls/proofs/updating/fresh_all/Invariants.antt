use Rattle.res_calls.proofs.Cited.{◌≡◌, ◌++◌, map, drop, view_all, fresh}
use Rattle.res_calls.proofs.updating.fresh_all.Given as goal

-- what is fresh so far, and then what is fresh of the rest, is what is fresh of all
abbrev pub invariant-loop-i : goal.invariant-loop-i
invariant-loop-i g l = view_all l.all.items ++ map (fresh l.heap.memory.heap) (drop l.i l.file.references)
    ≡ map (fresh l.heap.memory.heap) l.file.references
