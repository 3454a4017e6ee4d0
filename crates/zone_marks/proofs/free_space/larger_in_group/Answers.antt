use Rattle.zone_marks.proofs.Cited.{arith, no_mark}
use Rattle.zone_marks.proofs.Bounds.Space.{left-largest, no-more-room}
use Rattle.zone_marks.proofs.Marks.Lowering.{begins-way, mark-begins, mark-first}
use Rattle.zone_marks.proofs.Marks.Rooms.{bound-room, none-further, none-group, none-next}
use Rattle.zone_marks.proofs.free_space.larger_in_group.Goals as goal

pub returns-then-groups-group-clause-none : goal.returns-then-groups-group-clause-none
returns-then-groups-group-clause-none c = let m = c.requires.marked in
    none-group _ _ _ c.args.sound.now.sound _ _ m.marks _ m.groups _ c.requires.inside (omega arith) c.requires.below

pub measure_up_to-stretch-requires : goal.measure_up_to-stretch-requires
measure_up_to-stretch-requires c =
    begins-way _ _ _ c.args.sound.now.sound _ (mark-begins _ _ _ _ _ (omega arith) c.requires.marked.marks)

pub loop-index-preserved-then-mark-largest : goal.loop-index-preserved-then-mark-largest
loop-index-preserved-then-mark-largest c = record {
  none = none-next _ _ _ c.args.sound.now.sound _ _ c.requires.marked.marks _ (omega arith) (omega arith)
      c.loop-index.invariant.none;
  reached = c.loop-index.invariant.reached;
}

pub loop-index-preserved : goal.loop-index-preserved
loop-index-preserved c =
    let i = c.args.sound.now.sound in
    let b = mark-begins _ _ c.args.marks.now c.loop-index.index no_mark (omega arith) c.requires.marked.marks in
    record {
      none = none-further _ _ _ i _ _ _ b (grind (arith, mark-first, no-more-room)) (rw (← c.place_of_mark.ensures)
          (bound-room _ _ _ _ _ _ (omega arith) c.measure_up_to-stretch.ensures.below.most));
      reached = omega (arith, left-largest _ _ _ i _ b);
    }
