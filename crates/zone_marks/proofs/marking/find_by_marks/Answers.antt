use Rattle.zone_marks.proofs.Cited.{◌≡◌, ◌+◌, ◌*◌, subst, arith, rules, zone_in, NoneBelow, GROUP}
use Rattle.zone_marks.proofs.Marks.Passing.{begins-here}
use Rattle.zone_marks.proofs.Marks.Rooms.{nothing-below, none-found, none-past, none-group}
use Rattle.zone_marks.proofs.marking.find_by_marks.Goals as goal
use Rattle.zone_marks.proofs.marking.find_by_marks.Goals.{then-bytes-groups+in_default-room_in_group, else-bytes-groups}

pub room_in_stretch-requires-clause-begins : goal.room_in_stretch-requires-clause-begins
room_in_stretch-requires-clause-begins c = begins-here 0 _

pub room_in_stretch-requires-clause-below : goal.room_in_stretch-requires-clause-below
room_in_stretch-requires-clause-below c = search (rules, nothing-below)

pub loop-group-preserved : goal.loop-group-preserved
loop-group-preserved c =
    let group = c.loop-group.group in
    elim c.if-bytes-groups.branch [
      | then-bytes-groups+in_default-room_in_group w ↦ subst (NoneBelow c.args.bytes (zone_in c.args.sound.now.part.bytes)
          c.args.marks.now)
          (let e : GROUP * group + GROUP ≡ GROUP * (group + 1) = omega arith in e) w.in_default-room_in_group.ensures.none
      | else-bytes-groups w ↦ none-group _ _ _ c.args.sound.now.sound _ _
          c.requires.marks _ c.requires.groups _ c.loop-group-test.true w.if-bytes-groups.false c.loop-group.invariant
    ]

pub returns : goal.returns
returns c = none-found _ _ _ c.args.sound.now.sound _ (grind (arith, none-past))
