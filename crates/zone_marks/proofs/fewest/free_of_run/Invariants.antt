use Rattle.zone_marks.proofs.Cited.{◌≡◌, ◌+◌, ◌≤◌, length, sizes, opened, prefix, stretch_of}
use Rattle.zone_marks.proofs.fewest.free_of_run.Given as goal

-- the free bytes so far, and those of the rest of the run
abbrev pub invariant-loop-block : goal.invariant-loop-block
invariant-loop-block g l = record {
  bytes : l.free + sizes (g.W.Walk.rest l.walk) ≤ sizes (g.W.Walk.rest l.initial.walk);
  is : l.free + prefix (stretch_of (opened l.sparing (g.W.Walk.rest l.walk)))
      ≡ prefix (stretch_of (opened l.sparing (g.W.Walk.rest l.initial.walk)));
}

abbrev pub decreases-loop-block : goal.decreases-loop-block
decreases-loop-block g l = length (g.W.Walk.rest l.walk)
