use Rattle.block_store.proofs.Cited.{◌≡◌, ◌+◌, ◌≤◌, max, length, sizes, segments, largest_run}
use Rattle.block_store.proofs.Regroup.RunLooks.{largest_from}
use Rattle.block_store.proofs.runs.largest_run_in.Given as goal

-- the most so far, or that of what is still to come
abbrev pub invariant-loop-block : goal.invariant-loop-block
invariant-loop-block g l = record {
  bytes : l.free + sizes (g.W.Walk.rest l.walk) ≤ sizes (g.W.Walk.rest l.initial.walk);
  rest : max l.most (largest_from l.free (segments (g.W.Walk.rest l.walk)))
      ≡ largest_run (g.W.Walk.rest l.initial.walk);
}

abbrev pub decreases-loop-block : goal.decreases-loop-block
decreases-loop-block g l = length (g.W.Walk.rest l.walk)
