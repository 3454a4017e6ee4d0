use Rattle.zone_marks.proofs.Cited.{◌+◌, ◌*◌, ◌≤◌, largest_free, zone_in, NoneBelow, GROUP}
use Rattle.zone_marks.proofs.free_space.largest_free_by_marks.Given as goal

abbrev pub invariant-loop-group : goal.invariant-loop-group
invariant-loop-group l = record {
  none : NoneBelow (l.largest + 1) (zone_in l.sound.part.bytes) l.marks (GROUP * l.group);
  reached : l.largest ≤ largest_free (zone_in l.sound.part.bytes);
}
