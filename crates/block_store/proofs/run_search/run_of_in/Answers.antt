use Rattle.block_store.proofs.Cited.{◌∙◌, ◌&&◌, ap, option_map, sizes, is_relocatable, tidy, RunSpot, run_spot, has, has_free}
use Rattle.block_store.proofs.Regroup.RunScans.{suits-slot}
use Rattle.block_store.proofs.Regroup.RunSpots.{finds_run}
use Rattle.block_store.proofs.run_search.run_of_in.Goals as goal

pub returns : goal.returns
returns g c =
    let zone = tidy (g.W.Walk.rest c.args.walk.now) in
    finds_run (λ run. has (is_relocatable c.args.number) run && has_free c.args.bytes run) zone c.search_runs_in.result
    (c.search_runs_in.ensures ∙ ap (λ passes. option_map (λ (r : RunSpot). sizes r.below) (run_spot passes zone))
    (suits-slot c.args.number c.args.bytes))
