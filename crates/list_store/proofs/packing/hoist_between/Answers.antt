use Rattle.list_store.proofs.Cited.{◌≡◌, ◌-◌, ◌∙◌, ap, arith, refl, cond, Block, size, tidy, is_relocatable, count, has, high, with_run}
use Rattle.list_store.proofs.Cited.{blocks_of, run_between, total-between, changed-fits, high-total}
use Rattle.list_store.proofs.Regroup.Packed.{blocks-part, part-loose, part-fits, put_between}
use Rattle.list_store.proofs.Regroup.Packed.{changed-between}
use Rattle.list_store.proofs.packing.hoist_between.Goals.{After-pack_below}
use Rattle.list_store.proofs.packing.hoist_between.Goals as goal

-- the run is changed, and all is tidy
done : (c : After-pack_below) → tidy (blocks_of (put_between c.args.start c.args.end c.args.entries.now.len
    c.deref_mut.result.now c.pack_below.new.run c.args.entries.now.items))
    ≡ tidy (with_run (high (is_relocatable c.args.number))
    (run_between c.args.start c.args.end (blocks_of c.args.entries.now.items)))
done c =
    changed-between (high (is_relocatable c.args.number)) c.args.entries.now.items c.deref_mut.result.now
    c.pack_below.new.run c.args.start c.args.end c.args.entries.now.len c.deref_mut.ensures.value c.requires.order
    (omega (arith, c.deref_mut.ensures.len, c.requires.within)) (omega (arith, c.deref_mut.ensures.len))
    (omega arith) c.pack_below.ensures

pub pack_below-requires-clause-loose : goal.pack_below-requires-clause-loose
pack_below-requires-clause-loose c = part-loose c.args.entries.now.items c.deref_mut.result.now c.args.start c.args.end
    c.deref_mut.ensures.value c.requires.loose

pub pack_below-requires-clause-fits : goal.pack_below-requires-clause-fits
pack_below-requires-clause-fits c = part-fits c.args.entries.now.items c.deref_mut.result.now c.args.start c.args.end _
    c.deref_mut.ensures.value c.requires.order c.requires.fits

pub pack_below-requires-clause-has : goal.pack_below-requires-clause-has
pack_below-requires-clause-has c =
    ap (has (is_relocatable c.args.number)) (blocks-part c.args.entries.now.items c.deref_mut.result.now c.args.start
    (c.args.end - c.args.start) c.deref_mut.ensures.value) ∙ c.requires.has

pub pack_below-requires-clause-once : goal.pack_below-requires-clause-once
pack_below-requires-clause-once c =
    let t = is_relocatable c.args.number in
    let part = ap (count t) (blocks-part c.args.entries.now.items c.deref_mut.result.now c.args.start
    (c.args.end - c.args.start) c.deref_mut.ensures.value) in
    let all = total-between (λ (b : Block). cond (t b) 1 0) c.args.start c.args.end (blocks_of c.args.entries.now.items)
    c.requires.order in
    let once = c.requires.once in
    omega arith

pub tidy_entries-requires : goal.tidy_entries-requires
tidy_entries-requires c =
    let a = c.args in
    let run = high-total size (λ n m. refl) a.number (run_between a.start a.end (blocks_of a.entries.now.items)).run
    c.requires.loose in
    changed-fits (high (is_relocatable c.args.number)) _ (blocks_of a.entries.now.items) a.start a.end _
    c.requires.order (done (goal.at.tidy_entries-requires c).After-pack_below) (omega (arith, run)) c.requires.fits

pub returns : goal.returns
returns c = c.tidy_entries.ensures ∙ done (goal.at.returns c).After-pack_below
