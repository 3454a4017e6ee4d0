use Rattle.zone_marks.proofs.Marks.Lowering.{begins-way, mark-measured}
use Rattle.zone_marks.proofs.marking.measured_mark.Goals as goal

pub measure_up_to-stretch-requires : goal.measure_up_to-stretch-requires
measure_up_to-stretch-requires c = begins-way _ _ _ c.args.sound.now.sound _ c.requires.begins

pub spaces_told-requires : goal.spaces_told-requires
spaces_told-requires c = begins-way _ _ _ c.args.sound.now.sound _ c.requires.begins

pub returns-clause-mark : goal.returns-clause-mark
returns-clause-mark c = mark-measured _ _ _ c.args.sound.now.sound _ _ _ _ c.requires.begins c.requires.order
    c.measure_up_to-stretch.ensures.below c.spaces_told.ensures
