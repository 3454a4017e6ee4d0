use Rattle.zone_marks.proofs.Cited.{◌≡◌, ◌+◌, ◌≤◌, length, sizes, opened, spared, purges_for}
use Rattle.zone_marks.proofs.fewest.count_for.Given as goal

-- those so far, and those of what is still to come
abbrev pub invariant-loop-left : goal.invariant-loop-left
invariant-loop-left g l = record {
  few : l.total + sizes (g.W.Walk.rest l.walk) ≤ sizes (g.W.Walk.rest l.initial.walk);
  is : l.total + purges_for (spared l.sparing) l.left (opened l.sparing (g.W.Walk.rest l.walk))
      ≡ purges_for (spared l.sparing) l.bytes (opened l.sparing (g.W.Walk.rest l.initial.walk));
}

abbrev pub decreases-loop-left : goal.decreases-loop-left
decreases-loop-left g l = length (g.W.Walk.rest l.walk)
