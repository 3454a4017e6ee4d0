use Rattle.block_store.proofs.Cited.{◌≡◌, ◌+◌, ◌≤◌, length, sizes, free_sum, purged}
use Rattle.block_store.proofs.Purged.PurgedSums.{free_from}
use Rattle.block_store.proofs.purged_sums.free_after_in.Given as goal

-- the Free bytes so far and those of what is still to come are those of all
abbrev pub invariant-loop-block : goal.invariant-loop-block
invariant-loop-block g l = record {
  above : l.total + free_from l.left l.sparing (g.W.Walk.rest l.walk)
      ≡ free_sum (purged l.purges l.sparing (g.W.Walk.rest l.initial.walk));
  bytes : l.total + sizes (g.W.Walk.rest l.walk) ≤ sizes (g.W.Walk.rest l.initial.walk);
}

abbrev pub decreases-loop-block : goal.decreases-loop-block
decreases-loop-block g l = length (g.W.Walk.rest l.walk)
