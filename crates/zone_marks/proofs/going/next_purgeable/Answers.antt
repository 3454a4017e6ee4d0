use Rattle.zone_marks.proofs.Cited.{arith}
use Rattle.zone_marks.proofs.Bounds.Going.{next-fits, next-none, next-some}
use Rattle.zone_marks.proofs.going.next_purgeable.Goals as goal

pub returns-in_default : goal.returns-in_default
returns-in_default c = next-none _ _ _ c.args.sound.now.sound _ c.requires.begins c.requires.none _ c.requires.plain _
    (rw c.walk_at.ensures.is at c.in_default.ensures)

pub overflow_add-result : goal.overflow_add-result
overflow_add-result c =
    let i = c.args.sound.now.sound in
    let f = next-fits _ _ _ i _ c.requires.begins c.requires.none _ c.requires.plain _ _
    (rw c.walk_at.ensures.is at c.in-Some.ensures) in
    omega arith

pub returns : goal.returns
returns c = next-some _ _ _ c.args.sound.now.sound _ c.requires.begins c.requires.none _ c.requires.plain _ _ (grind arith)
