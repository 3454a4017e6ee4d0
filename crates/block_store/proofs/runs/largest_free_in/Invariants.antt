use Rattle.block_store.proofs.Cited.{◌≡◌, max, length, largest_free}
use Rattle.block_store.proofs.runs.largest_free_in.Given as goal

-- the most so far, or that of what is still to come
abbrev pub invariant-loop-block : goal.invariant-loop-block
invariant-loop-block g l = max l.most (largest_free (g.W.Walk.rest l.walk))
    ≡ largest_free (g.W.Walk.rest l.initial.walk)

abbrev pub decreases-loop-block : goal.decreases-loop-block
decreases-loop-block g l = length (g.W.Walk.rest l.walk)
