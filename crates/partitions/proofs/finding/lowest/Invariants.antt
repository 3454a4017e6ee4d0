use Rattle.partitions.proofs.Cited.{◌≡◌, drop, find, InOrder, holes, has_room}
use Rattle.partitions.proofs.finding.lowest.Given as goal

abbrev pub invariant-loop-window : goal.invariant-loop-window
invariant-loop-window l = record {
  order : InOrder l.from (drop l.window-index l.windows) l.memory;
  value : find (has_room l.size) (holes l.memory l.from (drop l.window-index l.windows))
      ≡ find (has_room l.size) (holes l.memory 0 l.windows);
}
