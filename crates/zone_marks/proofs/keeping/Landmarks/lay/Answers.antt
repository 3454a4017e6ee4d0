use Rattle.zone_marks.proofs.Cited.{arith, common_steps}
use Rattle.zone_marks.proofs.Marks.Tallies.{marks-of}
use Rattle.zone_marks.proofs.keeping.Landmarks.lay.Goals as goal

pub renew_groups-requires-clause-marks : goal.renew_groups-requires-clause-marks
renew_groups-requires-clause-marks c =
    rw c.deref.ensures.value (marks-of _ _ _ c.args.sound.now.sound _ (grind (arith, common_steps)))
