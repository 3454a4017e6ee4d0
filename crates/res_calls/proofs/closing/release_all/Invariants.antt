use Rattle.res_calls.proofs.Cited.{◌≡◌, drop, all_released, handles_of}
use Rattle.res_calls.proofs.closing.release_all.Given as goal

-- once the handles that are left are let go, all are
abbrev pub invariant-loop-i : goal.invariant-loop-i
invariant-loop-i g l = all_released (handles_of (drop l.i l.map.references)) l.heap.memory
    ≡ all_released (handles_of l.map.references) l.fn.heap.memory
