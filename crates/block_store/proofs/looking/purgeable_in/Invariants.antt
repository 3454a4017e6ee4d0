use Rattle.block_store.proofs.Cited.{◌≡◌, ◌+◌, ◌≤◌, length, sizes, most_purges}
use Rattle.block_store.proofs.looking.purgeable_in.Given as goal

-- those so far, and those of what is still to come
abbrev pub invariant-loop-block : goal.invariant-loop-block
invariant-loop-block g l = record {
  few : l.total + sizes (g.W.Walk.rest l.walk) ≤ sizes (g.W.Walk.rest l.initial.walk);
  rest : l.total + most_purges l.sparing (g.W.Walk.rest l.walk)
      ≡ most_purges l.sparing (g.W.Walk.rest l.initial.walk);
}

abbrev pub decreases-loop-block : goal.decreases-loop-block
decreases-loop-block g l = length (g.W.Walk.rest l.walk)
