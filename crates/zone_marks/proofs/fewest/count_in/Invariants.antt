use Rattle.zone_marks.proofs.Cited.{◌≡◌, ◌+◌, ◌≤◌, length, sizes, opened, spared, count_within}
use Rattle.zone_marks.proofs.fewest.count_in.Given as goal

-- those so far, and those of what is still to come
abbrev pub invariant-loop-left : goal.invariant-loop-left
invariant-loop-left g l = record {
  few : l.total + l.left ≤ l.bytes;
  fits : sizes (g.W.Walk.rest l.walk) ≤ sizes (g.W.Walk.rest l.initial.walk);
  is : l.total + count_within (spared l.sparing) l.left (opened l.sparing (g.W.Walk.rest l.walk))
      ≡ count_within (spared l.sparing) l.bytes (opened l.sparing (g.W.Walk.rest l.initial.walk));
}

abbrev pub decreases-loop-left : goal.decreases-loop-left
decreases-loop-left g l = length (g.W.Walk.rest l.walk)
