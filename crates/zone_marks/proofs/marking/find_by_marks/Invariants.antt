use Rattle.zone_marks.proofs.Cited.{◌*◌, zone_in, NoneBelow, GROUP}
use Rattle.zone_marks.proofs.marking.find_by_marks.Given as goal

abbrev pub invariant-loop-group : goal.invariant-loop-group
invariant-loop-group l = NoneBelow l.bytes (zone_in l.sound.part.bytes) l.marks (GROUP * l.group)
