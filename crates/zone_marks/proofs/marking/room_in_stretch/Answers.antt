use Rattle.zone_marks.proofs.Cited.{rules}
use Rattle.zone_marks.proofs.Marks.Lowering.{begins-way}
use Rattle.zone_marks.proofs.Marks.Rooms.{none-whole, none-further, lowest-found, if-none, if-three}
use Rattle.zone_marks.proofs.marking.room_in_stretch.Goals as goal

pub room_between-requires : goal.room_between-requires
room_between-requires c = search (rules, begins-way)

pub returns-then-mark-bytes-clause-none : goal.returns-then-mark-bytes-clause-none
returns-then-mark-bytes-clause-none c =
    none-whole _ _ _ c.args.sound.now.sound _ _ _ c.requires.below (c.requires.bound c.if-mark-bytes.true)

pub returns-else-mark-bytes-clause-none : goal.returns-else-mark-bytes-clause-none
returns-else-mark-bytes-clause-none c = search (rules, if-none, none-further)

pub returns-else-mark-bytes-clause-found : goal.returns-else-mark-bytes-clause-found
returns-else-mark-bytes-clause-found c = search (rules, if-three, lowest-found)
