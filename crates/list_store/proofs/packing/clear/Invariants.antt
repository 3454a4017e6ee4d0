use Rattle.list_store.proofs.Cited.{◌≡◌, ◌++◌, take, drop, map, blocks_of, cleared}
use Rattle.list_store.proofs.packing.clear.Given as goal

-- those so far are cleared, the others as they were
abbrev pub invariant-loop-i : goal.invariant-loop-i
invariant-loop-i l = blocks_of l.run ≡ map cleared (take l.i (blocks_of l.initial.run))
    ++ drop l.i (blocks_of l.initial.run)
