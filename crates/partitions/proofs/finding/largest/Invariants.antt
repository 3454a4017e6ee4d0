use Rattle.partitions.proofs.Cited.{◌≡◌, drop, InOrder, holes, larger_hole, largest}
use Rattle.partitions.proofs.finding.largest.Given as goal

abbrev pub invariant-loop-window : goal.invariant-loop-window
invariant-loop-window l = record {
  order : InOrder l.from (drop l.window-index l.windows) l.memory;
  value : larger_hole l.best (largest (holes l.memory l.from (drop l.window-index l.windows)))
      ≡ largest (holes l.memory 0 l.windows);
}
