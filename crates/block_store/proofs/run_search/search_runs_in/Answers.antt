use Rattle.block_store.proofs.Cited.{◌∙◌, ap, arith, spared, opened, scan_runs}
use Rattle.block_store.proofs.Regroup.RunScans.{scan-is, any-none}
use Rattle.block_store.proofs.run_search.search_runs_in.Goals as goal

pub loop-sparing-init : goal.loop-sparing-init
loop-sparing-init g c =
    let zone = g.W.Walk.rest c.args.walk.now in
    record {
      above = ap (λ met. scan_runs c.args.number c.args.bytes (spared c.args.sparing) c.args.purges 0 0 met 0
          (opened c.args.sparing zone)) (any-none c.args.number c.is_none.result c.is_none.ensures)
          ∙ scan-is c.args.number c.args.bytes c.args.sparing c.args.purges zone;
      bytes = omega arith;
      free = omega arith;
    }
