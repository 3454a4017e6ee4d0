use Rattle.list_store.proofs.Cited.{blocks_of, run_between, run_at-parts}
use Rattle.list_store.proofs.Regroup.Packed.{found-between}
use Rattle.list_store.proofs.packing.hoist_slot.Goals as goal

pub hoist_between-requires-clause-loose : goal.hoist_between-requires-clause-loose
hoist_between-requires-clause-loose c =
    let zone = blocks_of c.args.entries.now.items in
    let r = run_between c.run_bounds-start.result.start c.run_bounds-start.result.end zone in
    (run_at-parts c.args.place zone r (found-between c.args.entries.now.items _ c.args.place c.run_bounds-start.result.start
    c.run_bounds-start.result.end c.deref.ensures.value c.run_bounds-start.ensures.run)).loose
