use Rattle.block_store.proofs.Cited.{has_free, purged}
use Rattle.block_store.proofs.Regroup.RunSpots.{finds_run}
use Rattle.block_store.proofs.run_search.find_run_in.Goals as goal

pub returns : goal.returns
returns g c = finds_run (has_free c.args.bytes) (purged c.args.purges c.args.sparing (g.W.Walk.rest c.args.walk.now))
    c.search_runs_in.result c.search_runs_in.ensures
