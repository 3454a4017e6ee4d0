use Rattle.zone_marks.proofs.Cited.{arith, left-zone, on-way}
use Rattle.zone_marks.proofs.Bounds.Space.{zone-largest}
use Rattle.zone_marks.proofs.Marks.Rooms.{bound-room, none-past}
use Rattle.zone_marks.proofs.free_space.largest_free_by_marks.Goals as goal

pub measure_up_to-largest-requires : goal.measure_up_to-largest-requires
measure_up_to-largest-requires c = on-way _ _ _ c.args.sound.now.sound

pub loop-group-init : goal.loop-group-init
loop-group-init c = record {
  none = grind (arith, left-zone, bound-room);
  reached = grind (arith, left-zone);
}

pub returns : goal.returns
returns c = zone-largest _ _ _ c.args.sound.now.sound _ (grind (arith, none-past)) c.loop-group.invariant.reached
