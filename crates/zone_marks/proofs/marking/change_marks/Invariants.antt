use Rattle.zone_marks.proofs.Cited.{zone_in, AreGroups}
use Rattle.zone_marks.proofs.Marks.Lowering.{Changing}
use Rattle.zone_marks.proofs.marking.change_marks.Given as goal

abbrev pub invariant-loop-first : goal.invariant-loop-first
invariant-loop-first l = record {
  groups : AreGroups l.groups l.marks;
  changing : Changing l.lo l.hi l.next l.above l.first (zone_in l.sound.part.bytes) l.marks;
}

abbrev pub decreases-loop-first : goal.decreases-loop-first
decreases-loop-first l = l.first
