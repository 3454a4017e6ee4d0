use Rattle.block_store.proofs.Cited.{◌≡◌, ◌+◌, length, sizes}
use Rattle.block_store.proofs.Regroup.RunLooks.{run_behind}
use Rattle.block_store.proofs.runs.next_run_in.Given as goal

-- what is still to come tells where the run above begins, as all do
abbrev pub invariant-loop-block : goal.invariant-loop-block
invariant-loop-block g l = record {
  run : run_behind l.bytes (g.W.Walk.rest l.walk) ≡ run_behind 0 (g.W.Walk.rest l.initial.walk);
  whole : l.bytes + sizes (g.W.Walk.rest l.walk) ≡ sizes (g.W.Walk.rest l.initial.walk);
}

abbrev pub decreases-loop-block : goal.decreases-loop-block
decreases-loop-block g l = length (g.W.Walk.rest l.walk)
