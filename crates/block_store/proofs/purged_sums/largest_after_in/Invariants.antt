use Rattle.block_store.proofs.Cited.{◌≡◌, ◌+◌, ◌≤◌, max, length, sizes, purged, largest_free}
use Rattle.block_store.proofs.Purged.PurgedSums.{largest_from}
use Rattle.block_store.proofs.purged_sums.largest_after_in.Given as goal

-- the most so far, or that of the stretch and what is still to come
abbrev pub invariant-loop-block : goal.invariant-loop-block
invariant-loop-block g l = record {
  above : max l.most (largest_from l.stretch l.left l.sparing (g.W.Walk.rest l.walk))
      ≡ largest_free (purged l.purges l.sparing (g.W.Walk.rest l.initial.walk));
  bytes : l.stretch + sizes (g.W.Walk.rest l.walk) ≤ sizes (g.W.Walk.rest l.initial.walk);
}

abbrev pub decreases-loop-block : goal.decreases-loop-block
decreases-loop-block g l = length (g.W.Walk.rest l.walk)
