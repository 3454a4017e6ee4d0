use Rattle.zone_marks.proofs.Cited.{◌≡◌, ◌+◌, ◌≤◌, length, sizes, purgeable_sum}
use Rattle.zone_marks.proofs.purgeable.purgeable_bytes_in.Given as goal

-- those so far, and those of what is still to come
abbrev pub invariant-loop-block : goal.invariant-loop-block
invariant-loop-block g l = record {
  few : l.total + sizes (g.W.Walk.rest l.walk) ≤ sizes (g.W.Walk.rest l.initial.walk);
  sum : l.total + purgeable_sum (g.W.Walk.rest l.walk) ≡ purgeable_sum (g.W.Walk.rest l.initial.walk);
}

abbrev pub decreases-loop-block : goal.decreases-loop-block
decreases-loop-block g l = length (g.W.Walk.rest l.walk)
