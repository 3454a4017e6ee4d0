use Rattle.heap_calls.proofs.Cited.{◌-◌, sizes}
use Rattle.heap_calls.proofs.Room.SettlingRuns.{IsNext}
use Rattle.heap_calls.proofs.compaction.settle_runs.Given as goal

-- the runs below this one are settled
abbrev pub invariant-loop-bytes : goal.invariant-loop-bytes
invariant-loop-bytes g l = IsNext l.bytes (g.S.BlockStore.zone l.initial.store) (g.S.BlockStore.rest l.initial.store)
    (g.S.BlockStore.zone l.store) (g.S.BlockStore.rest l.store) l.run l.stretches

abbrev pub decreases-loop-bytes : goal.decreases-loop-bytes
decreases-loop-bytes g l = sizes (g.S.BlockStore.zone l.initial.store) - l.run
