use Rattle.zone_marks.proofs.Cited.{◌≡◌, ◌+◌, ◌≤◌, length, sizes, spared, run_purges_for}
use Rattle.zone_marks.proofs.fewest.count_in_run.Given as goal

-- those so far, and those of what is still to come
abbrev pub invariant-loop-left : goal.invariant-loop-left
invariant-loop-left g l = record {
  few : l.total + sizes (g.W.Walk.rest l.walk) ≤ sizes (g.W.Walk.rest l.initial.walk);
  is : run_purges_for (spared l.sparing) l.total l.left (g.W.Walk.rest l.walk)
      ≡ run_purges_for (spared l.sparing) 0 l.bytes (g.W.Walk.rest l.initial.walk);
}

abbrev pub decreases-loop-left : goal.decreases-loop-left
decreases-loop-left g l = length (g.W.Walk.rest l.walk)
