use Rattle.zone_drawing.proofs.Cited.{◌+◌, sym, ◌∙◌, ap, subst, arith, seen_sizes}
use Rattle.zone_drawing.proofs.Walking.{Walked, walked-edge, walk-begun, walk-steps, walk-ends, walk-over, seen-sizes}
use Rattle.zone_drawing.proofs.walk.blocks_of.Goals as goal

pub loop-place-init : goal.loop-place-init
loop-place-init g c = let zone = g.S.BlockStore.zone c.args.store.now in
    subst (Walked zone 0) (sym c.new-blocks.ensures.items) (walk-begun zone)

pub block_at-requires : goal.block_at-requires
block_at-requires g c = walked-edge _ _ _ c.loop-place.invariant

pub returns-in_default-clause-blocks : goal.returns-in_default-clause-blocks
returns-in_default-clause-blocks g c = let zone = g.S.BlockStore.zone c.args.store.now in
    walk-ends zone _ _ (g.met.S.BlockStore.tidied c.args.store.now) c.loop-place.invariant
    (sym c.in_default.is ∙ c.block_at.ensures)

pub returns-in_default-clause-fits : goal.returns-in_default-clause-fits
returns-in_default-clause-fits g c = let zone = g.S.BlockStore.zone c.args.store.now in
    let all = walk-ends zone _ _ (g.met.S.BlockStore.tidied c.args.store.now) c.loop-place.invariant
    (sym c.in_default.is ∙ c.block_at.ensures) in
    omega (arith, ap seen_sizes all, seen-sizes zone, g.met.S.BlockStore.small c.args.store.now)

pub size_of_seen-place-requires : goal.size_of_seen-place-requires
size_of_seen-place-requires g c = let zone = g.S.BlockStore.zone c.args.store.now in
    let next = walk-steps zone _ _ c.in-Some.block (g.met.S.BlockStore.tidied c.args.store.now) c.loop-place.invariant
    (sym c.in-Some.is ∙ c.block_at.ensures) in
    omega (arith, next.fits, g.met.S.BlockStore.small c.args.store.now)

pub overflow_add-place : goal.overflow_add-place
overflow_add-place g c = let zone = g.S.BlockStore.zone c.args.store.now in
    let next = walk-steps zone _ _ c.in-Some.block (g.met.S.BlockStore.tidied c.args.store.now) c.loop-place.invariant
    (sym c.in-Some.is ∙ c.block_at.ensures) in
    omega (arith, next.fits, c.size_of_seen-place.ensures, g.met.S.BlockStore.small c.args.store.now)

pub loop-place-smaller : goal.loop-place-smaller
loop-place-smaller g c = let zone = g.S.BlockStore.zone c.args.store.now in
    let next = walk-steps zone _ _ c.in-Some.block (g.met.S.BlockStore.tidied c.args.store.now) c.loop-place.invariant
    (sym c.in-Some.is ∙ c.block_at.ensures) in
    omega (arith, next.fits, next.more, c.size_of_seen-place.ensures)

pub loop-place-preserved : goal.loop-place-preserved
loop-place-preserved g c = let zone = g.S.BlockStore.zone c.args.store.now in
    let next = walk-steps zone _ _ c.in-Some.block (g.met.S.BlockStore.tidied c.args.store.now) c.loop-place.invariant
    (sym c.in-Some.is ∙ c.block_at.ensures) in
    subst (λ n. Walked zone (c.loop-place.place + n) c.push.new.self.items) (sym c.size_of_seen-place.ensures)
    (subst (Walked zone _) (sym c.in_ok-push.ensures.items) next.next)

pub returns-clause-blocks : goal.returns-clause-blocks
returns-clause-blocks g c = let zone = g.S.BlockStore.zone c.args.store.now in
    walk-over zone _ _ (g.met.S.BlockStore.tidied c.args.store.now) c.loop-place.invariant
    (omega (arith, c.loop-place-test.false, c.len-len.ensures))

pub returns-clause-fits : goal.returns-clause-fits
returns-clause-fits g c = let zone = g.S.BlockStore.zone c.args.store.now in
    let all = walk-over zone _ _ (g.met.S.BlockStore.tidied c.args.store.now) c.loop-place.invariant
    (omega (arith, c.loop-place-test.false, c.len-len.ensures)) in
    omega (arith, ap seen_sizes all, seen-sizes zone, g.met.S.BlockStore.small c.args.store.now)
