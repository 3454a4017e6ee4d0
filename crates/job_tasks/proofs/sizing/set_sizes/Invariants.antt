use Rattle.job_tasks.proofs.Cited.{◌≡◌, ◌++◌, map, take, drop, sized}
use Rattle.job_tasks.proofs.sizing.set_sizes.Given as goal

-- those that have their size, with those to come
abbrev pub invariant-loop-i : goal.invariant-loop-i
invariant-loop-i l = l.apps.items
    ≡ map (sized l.sizes) (take l.i l.initial.apps.items) ++ drop l.i l.initial.apps.items
