use Rattle.zone_marks.proofs.Cited.{◌≤◌, arith, is_relocatable, sizes, led-slot, led-place, if-spot}
use Rattle.zone_marks.proofs.Marks.Sought.{sought}
use Rattle.zone_marks.proofs.above.has_room_above.Goals as goal

pub returns : goal.returns
returns c =
    let i = c.args.sound.now.sound in
    sought _ _ _ i _ (c.below-from.ensures.begins _ c.requires) (is_relocatable c.args.slot) _
    (if-spot _ (λ s. c.below-from.result ≤ sizes s.below) (λ s e.
    let l = led-slot _ _ _ i c.args.slot s e in
    omega (arith, led-place c.args.sound.now.part.bytes _ _ i c.args.slot s e)))
    (rw c.walk_at.ensures.is at c.room_above_in.ensures)
