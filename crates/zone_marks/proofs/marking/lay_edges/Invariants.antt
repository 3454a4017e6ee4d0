use Rattle.zone_marks.proofs.Cited.{◌≡◌, ◌≤◌, ◌-◌, length, zone_in, AreLaid, AreGroups}
use Rattle.zone_marks.proofs.marking.lay_edges.Given as goal

abbrev pub invariant-loop-next : goal.invariant-loop-next
invariant-loop-next l = AreLaid l.next.index l.next.at (zone_in l.sound.part.bytes) l.marks × AreGroups l.groups l.marks
    × (l.fn.from.index ≤ l.next.index) × (length l.marks ≡ length l.initial.marks)

abbrev pub decreases-loop-next : goal.decreases-loop-next
decreases-loop-next l = length l.marks - l.next.index
