use Rattle.block_store.proofs.Cited.{◌≡◌, ◌+◌, ◌≤◌, length, sizes, segments, spared}
use Rattle.block_store.proofs.Regroup.RunLooks.{goes_first}
use Rattle.block_store.proofs.runs.purgeable_in_run_in.Given as goal

-- those so far, and those of the rest of the run
abbrev pub invariant-loop-block : goal.invariant-loop-block
invariant-loop-block g l = record {
  few : l.total + sizes (g.W.Walk.rest l.walk) ≤ sizes (g.W.Walk.rest l.initial.walk);
  rest : l.total + goes_first (spared l.sparing) (segments (g.W.Walk.rest l.walk))
      ≡ goes_first (spared l.sparing) (segments (g.W.Walk.rest l.initial.walk));
}

abbrev pub decreases-loop-block : goal.decreases-loop-block
decreases-loop-block g l = length (g.W.Walk.rest l.walk)
