use Rattle.zone_marks.proofs.Cited.{◌≡◌, length, zone_in, AreLaid, AreGroups}
use Rattle.zone_marks.proofs.marking.lay_marks.Given as goal

abbrev pub invariant-loop-index : goal.invariant-loop-index
invariant-loop-index l = (length l.marks ≡ l.index-end) × AreGroups l.groups l.marks
    × AreLaid l.index l.at (zone_in l.sound.part.bytes) l.marks
