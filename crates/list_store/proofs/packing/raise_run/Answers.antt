use Rattle.list_store.proofs.Cited.{◌≡◌, subst, ◌∙◌, ap, sym, Option, IfSome, Free, tidy, RunSpot, with_run, low, blocks_of, Raised}
use Rattle.list_store.proofs.Regroup.Packed.{raised-above}
use Rattle.list_store.proofs.packing.raise_run.Goals.{In_ok-insert}
use Rattle.list_store.proofs.packing.raise_run.Goals as goal

-- the run with a Free block more
raised : (c : In_ok-insert) → Raised (blocks_of c.args.entries.now.items) (blocks_of c.insert.new.self.items)
    c.args.place c.args.bytes c.run_bounds-start.result.start c.run_bounds-start.result.end
raised c =
    let now = c.run_bounds-start.ensures in
    raised-above c.args.entries.now.items _ c.insert.new.self.items c.args.place c.args.bytes _ _ c.deref.ensures.value
    now.order now.within now.run c.in_ok-insert.ensures.items c.requires.fits c.requires.run

pub pack_between-requires-clause-fits : goal.pack_between-requires-clause-fits
pack_between-requires-clause-fits c = (raised (goal.at.pack_between-requires-clause-fits c).In_ok-insert).fits

pub pack_between-requires-clause-loose : goal.pack_between-requires-clause-loose
pack_between-requires-clause-loose c = (raised (goal.at.pack_between-requires-clause-loose c).In_ok-insert).loose

pub pack_between-requires-clause-less : goal.pack_between-requires-clause-less
pack_between-requires-clause-less c = (raised (goal.at.pack_between-requires-clause-less c).In_ok-insert).less

pub returns-clause-ok : goal.returns-clause-ok
returns-clause-ok c =
    let r = raised (goal.at.returns-clause-ok c).In_ok-insert in
    let P : Option RunSpot → Type 0 = λ o. IfSome o (λ (r : RunSpot). blocks_of c.pack_between.new.entries.items
    ≡ tidy (with_run (low (Free c.args.bytes)) r)) in
    subst P (sym r.found) (c.pack_between.ensures ∙ ap tidy r.done)
