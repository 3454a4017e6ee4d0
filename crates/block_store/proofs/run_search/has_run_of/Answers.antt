use Rattle.block_store.proofs.Cited.{◌∙◌, ap, is_some, is_some-map, run_spot, purged}
use Rattle.block_store.proofs.Regroup.RunScans.{suits-slot}
use Rattle.block_store.proofs.run_search.has_run_of.Goals as goal

pub returns : goal.returns
returns g c =
    let zone = purged c.args.purges c.args.sparing (g.W.Walk.rest c.args.walk.now) in
    c.is_some.ensures ∙ ap is_some c.search_runs_in.ensures ∙ is_some-map _ _
    ∙ ap (λ passes. is_some (run_spot passes zone)) (suits-slot c.args.number c.args.bytes)
