use Rattle.block_store.proofs.Cited.{◌∙◌, sym, arith, zero-max}
use Rattle.block_store.proofs.Purged.PurgedSums.{largest_from, largest-purged}
use Rattle.block_store.proofs.purged_sums.largest_after_in.Goals as goal

pub loop-block-init : goal.loop-block-init
loop-block-init g c =
    let zone = g.W.Walk.rest c.args.walk.now in
    record {
      above = zero-max (largest_from 0 c.args.purges c.args.sparing zone)
          ∙ sym (largest-purged c.args.sparing c.args.purges zone);
      bytes = omega arith;
    }
