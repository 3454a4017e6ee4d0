use Rattle.zone_marks.proofs.Cited.{◌+◌, ◌≤◌, largest_free, zone_in, NoneBelow}
use Rattle.zone_marks.proofs.free_space.larger_in_group.Given as goal

abbrev pub invariant-loop-index : goal.invariant-loop-index
invariant-loop-index l = record {
  none : NoneBelow (l.largest + 1) (zone_in l.sound.part.bytes) l.marks l.index;
  reached : l.largest ≤ largest_free (zone_in l.sound.part.bytes);
}
