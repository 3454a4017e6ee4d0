use Rattle.list_store.proofs.Cited.{◌≡◌, ◌-◌, ◌∙◌, ap, arith, refl, size, tidy, free_sum, with_run, blocks_of, packed, run_between}
use Rattle.list_store.proofs.Cited.{changed-fits, packed-total}
use Rattle.list_store.proofs.Regroup.Packed.{blocks-part, part-loose, part-fits, put_between, changed-between}
use Rattle.list_store.proofs.packing.pack_between.Goals.{After-pack}
use Rattle.list_store.proofs.packing.pack_between.Goals as goal

-- the run is changed, and all is tidy
done : (c : After-pack) → tidy (blocks_of (put_between c.args.start c.args.end c.args.entries.now.len
    c.deref_mut.result.now c.pack.new.run c.args.entries.now.items))
    ≡ tidy (with_run (packed c.args.less) (run_between c.args.start c.args.end (blocks_of c.args.entries.now.items)))
done c =
    changed-between (packed c.args.less) c.args.entries.now.items c.deref_mut.result.now c.pack.new.run c.args.start
    c.args.end c.args.entries.now.len c.deref_mut.ensures.value c.requires.order
    (omega (arith, c.deref_mut.ensures.len, c.requires.within)) (omega (arith, c.deref_mut.ensures.len))
    (omega arith) c.pack.ensures

pub pack-requires-clause-loose : goal.pack-requires-clause-loose
pack-requires-clause-loose c = part-loose c.args.entries.now.items c.deref_mut.result.now c.args.start c.args.end
    c.deref_mut.ensures.value c.requires.loose

pub pack-requires-clause-fits : goal.pack-requires-clause-fits
pack-requires-clause-fits c = part-fits c.args.entries.now.items c.deref_mut.result.now c.args.start c.args.end _
    c.deref_mut.ensures.value c.requires.order c.requires.fits

pub pack-requires-clause-less : goal.pack-requires-clause-less
pack-requires-clause-less c =
    let part = ap free_sum (blocks-part c.args.entries.now.items c.deref_mut.result.now c.args.start
    (c.args.end - c.args.start) c.deref_mut.ensures.value) in
    let less = c.requires.less in
    omega arith

pub tidy_entries-requires : goal.tidy_entries-requires
tidy_entries-requires c =
    let a = c.args in
    let run = packed-total size (λ n m. refl) a.less (run_between a.start a.end (blocks_of a.entries.now.items)).run
    c.requires.loose c.requires.less in
    changed-fits (packed c.args.less) _ (blocks_of a.entries.now.items) a.start a.end _ c.requires.order
    (done (goal.at.tidy_entries-requires c).After-pack) (omega (arith, run)) c.requires.fits

pub returns : goal.returns
returns c = c.tidy_entries.ensures ∙ done (goal.at.returns c).After-pack
