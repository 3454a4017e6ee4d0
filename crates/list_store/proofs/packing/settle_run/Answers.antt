use Rattle.list_store.proofs.Cited.{◌≡◌, ◌-◌, ◌∙◌, sym, ap, subst, Option, IfSome, lowered_in_run, RunSpot, blocks_of, run_between}
use Rattle.list_store.proofs.Cited.{run_at-parts}
use Rattle.list_store.proofs.Regroup.Packed.{blocks-part, found-between}
use Rattle.list_store.proofs.packing.settle_run.Goals as goal

pub pack_between-requires-clause-loose : goal.pack_between-requires-clause-loose
pack_between-requires-clause-loose c =
    let zone = blocks_of c.args.entries.now.items in
    let r = run_between c.run_bounds-start.result.start c.run_bounds-start.result.end zone in
    (run_at-parts c.args.place zone r (found-between c.args.entries.now.items _ c.args.place c.run_bounds-start.result.start
    c.run_bounds-start.result.end c.deref.ensures.value c.run_bounds-start.ensures.run)).loose

pub returns-clause-lowered : goal.returns-clause-lowered
returns-clause-lowered c =
    let zone = blocks_of c.args.entries.now.items in
    let start = c.run_bounds-start.result.start in
    let end = c.run_bounds-start.result.end in
    let found = found-between c.args.entries.now.items _ c.args.place start end c.deref.ensures.value
    c.run_bounds-start.ensures.run in
    let P : Option RunSpot → Type 0 = λ o. IfSome o (λ (r : RunSpot). c.count_lowered-lowered.result ≡ lowered_in_run
    r.run) in
    subst P (sym found) (c.count_lowered-lowered.ensures
    ∙ ap lowered_in_run (blocks-part c.args.entries.now.items c.deref-2.result.now start (end - start)
    c.deref-2.ensures.value))
