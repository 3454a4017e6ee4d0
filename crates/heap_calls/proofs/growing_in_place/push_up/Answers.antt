use Rattle.heap_calls.proofs.Cited.{ap, ◌∙◌, ◌≡◌, ◌+◌, sym, arith, ◌++◌, ◌∷◌, on_ok_weaker, IfSome, Free, is_nonrelocatable, tidy, has}
use Rattle.heap_calls.proofs.Cited.{run_at, with_run, low, spot_at, spared, pushed_up}
use Rattle.heap_calls.proofs.Sizes.GrowingInPlace.{PurgedAbove, purged_above, spot-small}
use Rattle.heap_calls.proofs.Numbering.Changing.{spot_at-is}
use Rattle.heap_calls.proofs.Room.Staying.{nonrelocatable-raised, nonrelocatable-above_emptied}
use Rattle.heap_calls.proofs.growing_in_place.push_up.Given.{Over}
use Rattle.heap_calls.proofs.growing_in_place.push_up.Goals.{In_ok-purge_above_telling}
use Rattle.heap_calls.proofs.growing_in_place.push_up.Goals as goal

-- the block, with the run above it emptied
above : (g : Over) (c : In_ok-purge_above_telling g) → PurgedAbove c.args.place c.args.taken c.args.bytes c.args.purges
    (spared c.args.sparing) (g.S.BlockStore.zone c.args.store.now) (g.S.BlockStore.zone c.purge_above_telling.new.store)
above g c =
    let store = c.args.store.now in
    purged_above c.args.place c.args.taken c.args.bytes c.args.purges (spared c.args.sparing)
    (g.S.BlockStore.zone store) (g.S.BlockStore.zone c.purge_above_telling.new.store)
    (g.met.S.BlockStore.tidied store) c.requires.still c.requires.room c.in_ok-purge_above_telling.ensures.zone

pub overflow_add-place : goal.overflow_add-place
overflow_add-place g c =
    let above = above g (goal.at.overflow_add-place g c).In_ok-purge_above_telling in
    omega (
      arith,
      above.size_is,
      spot-small c.args.place (g.S.BlockStore.zone c.args.store.now) above.s above.at,
      g.met.S.BlockStore.small c.args.store.now,
    )

pub raise-requires-clause-run : goal.raise-requires-clause-run
raise-requires-clause-run g c = (above g (goal.at.raise-requires-clause-run g c).In_ok-purge_above_telling).allowed

pub returns-clause-zone : goal.returns-clause-zone
returns-clause-zone g c =
    let after = g.S.BlockStore.zone c.raise.new.self in
    on_ok_weaker {P = IfSome (run_at (c.args.place + c.args.taken) (g.S.BlockStore.zone c.purge_above_telling.new.store))
    (λ r. after ≡ tidy (with_run (low (Free c.args.bytes)) r))}
    {Q = IfSome (spot_at c.args.place (g.S.BlockStore.zone c.args.store.now))
    (λ s. after ≡ s.below ++ s.here ∷ pushed_up c.args.bytes c.args.purges (spared c.args.sparing) s.above)}
    c.raise.result
    ((above g (goal.at.returns-clause-zone g c).In_ok-purge_above_telling).raised after) c.raise.ensures.ok

pub returns-clause-nonrelocatable : goal.returns-clause-nonrelocatable
returns-clause-nonrelocatable g c place =
    let above = above g (goal.at.returns-clause-nonrelocatable g c).In_ok-purge_above_telling in
    let s = above.s in
    nonrelocatable-raised c.raise.result (c.args.place + c.args.taken) c.args.bytes (g.S.BlockStore.zone c.purge_above_telling.new.store)
    (g.S.BlockStore.zone c.raise.new.self) above.allowed c.raise.ensures.ok c.raise.ensures.err place
    ∙ ap (has (is_nonrelocatable place)) above.left ∙ nonrelocatable-above_emptied s.below s.here s.above c.args.purges
    (spared c.args.sparing) place
    ∙ ap (has (is_nonrelocatable place)) (sym (spot_at-is c.args.place (g.S.BlockStore.zone c.args.store.now) s above.at))
