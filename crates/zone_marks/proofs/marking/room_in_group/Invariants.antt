use Rattle.zone_marks.proofs.Cited.{zone_in, NoneBelow}
use Rattle.zone_marks.proofs.marking.room_in_group.Given as goal

abbrev pub invariant-loop-index : goal.invariant-loop-index
invariant-loop-index l = NoneBelow l.bytes (zone_in l.sound.part.bytes) l.marks l.index
