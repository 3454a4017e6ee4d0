use Rattle.block_store.proofs.Cited.{◌≡◌, ◌+◌, ◌≤◌, length, sizes, segments, spared}
use Rattle.block_store.proofs.Regroup.RunLooks.{free_first}
use Rattle.block_store.proofs.runs.run_free_in.Given as goal

-- the Free bytes so far, and those of the rest of the run
abbrev pub invariant-loop-block : goal.invariant-loop-block
invariant-loop-block g l = record {
  bytes : l.free + sizes (g.W.Walk.rest l.walk) ≤ sizes (g.W.Walk.rest l.initial.walk);
  rest : l.free + free_first l.left (spared l.sparing) (segments (g.W.Walk.rest l.walk))
      ≡ free_first l.purges (spared l.sparing) (segments (g.W.Walk.rest l.initial.walk));
}

abbrev pub decreases-loop-block : goal.decreases-loop-block
decreases-loop-block g l = length (g.W.Walk.rest l.walk)
