use Rattle.block_store.proofs.Cited.{◌≡◌, ◌+◌, ◌*◌, ◌≤◌, false, length, sizes, segments}
use Rattle.block_store.proofs.Regroup.PackedRuns.{packed_from}
use Rattle.block_store.proofs.runs.packed_runs_in.Given as goal

-- what is still to come is counted with those so far, as all are
abbrev pub invariant-loop-block : goal.invariant-loop-block
invariant-loop-block g l = record {
  one : l.first ≤ 1;
  few : 2 * (l.count + l.first) + sizes (g.W.Walk.rest l.walk) ≤ sizes (g.W.Walk.rest l.initial.walk) + 2;
  rest : packed_from l.count l.first l.free (segments (g.W.Walk.rest l.walk))
      ≡ packed_from 0 1 false (segments (g.W.Walk.rest l.initial.walk));
}

abbrev pub decreases-loop-block : goal.decreases-loop-block
decreases-loop-block g l = length (g.W.Walk.rest l.walk)
