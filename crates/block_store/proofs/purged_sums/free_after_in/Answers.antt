use Rattle.block_store.proofs.Cited.{arith}
use Rattle.block_store.proofs.Purged.PurgedSums.{free-purged}
use Rattle.block_store.proofs.purged_sums.free_after_in.Goals as goal

pub loop-block-init : goal.loop-block-init
loop-block-init g c = record {
  above = omega (arith, free-purged c.args.sparing c.args.purges (g.W.Walk.rest c.args.walk.now));
  bytes = omega arith;
}
