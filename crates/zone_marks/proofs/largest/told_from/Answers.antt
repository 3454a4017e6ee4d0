use Rattle.zone_marks.proofs.Cited.{arith}
use Rattle.zone_marks.proofs.Searches.Pieces.{group-stretch, next-stretch}
use Rattle.zone_marks.proofs.largest.told_from.Goals as goal

pub returns-in-Known-clause-stretch : goal.returns-in-Known-clause-stretch
returns-in-Known-clause-stretch c = let m = c.requires.marked in
    rw c.in-Known.is (group-stretch _ _ _ c.args.sound.now.sound _ _ m.marks _ _ c.requires.inside (grind arith))

pub returns-clause-stretch : goal.returns-clause-stretch
returns-clause-stretch c = let m = c.requires.marked in
    rw c.told.ensures (next-stretch _ _ _ c.args.sound.now.sound _ _ m.marks _ c.requires.inside)
