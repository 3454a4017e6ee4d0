use Rattle.zone_marks.proofs.Cited.{ap, arith, sizes}
use Rattle.zone_marks.proofs.Marks.Lowering.{begins-way}
use Rattle.zone_marks.proofs.Searches.Pieces.{left-long}
use Rattle.zone_marks.proofs.measuring.walk_at.Goals as goal

pub walk_from-requires : goal.walk_from-requires
walk_from-requires c = begins-way _ _ _ c.args.sound.now.sound _ c.requires

pub returns-clause-fits : goal.returns-clause-fits
returns-clause-fits c =
    let l = left-long _ _ _ c.args.sound.now.sound _ c.requires in
    omega (arith, ap sizes c.walk_from.ensures)
