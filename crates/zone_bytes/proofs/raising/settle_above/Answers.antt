use Rattle.zone_bytes.proofs.Cited.{arith}
use Rattle.zone_bytes.proofs.Runs.Packed.{run-bounds, run-moved}
use Rattle.zone_bytes.proofs.raising.settle_above.Goals as goal

pub overflow_add-packed : goal.overflow_add-packed
overflow_add-packed g c = omega (arith, run-bounds g.lay _ _ (run-moved g.lay _ _ c.requires.1.0))
