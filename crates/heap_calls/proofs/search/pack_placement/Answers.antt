use Rattle.heap_calls.proofs.Cited.{◌≡◌, Some, ◌∙◌, ap, subst, refl, is_nonrelocatable, is_relocatable, tidy, has, has_free, settle}
use Rattle.heap_calls.proofs.Cited.{with_run, none-settled, FindsPlacement, block_of, Placement, IsRest, with_moves, lowered_in_run}
use Rattle.heap_calls.proofs.Cited.{place_lowers}
use Rattle.heap_calls.specs.declared.search.Placement.TheVariants as see
use Rattle.heap_calls.proofs.Room.Searching.{room-found, at_run}
use Rattle.heap_calls.proofs.Sizes.Carrying.{settle-blocks}
use Rattle.heap_calls.proofs.Room.Staying.{nonrelocatable-run_at, none-settle}
use Rattle.heap_calls.proofs.Room.MoveCounts.{packs-none, packs-run, at-free, at-packed}
use Rattle.heap_calls.proofs.search.pack_placement.Given.{Over}
use Rattle.heap_calls.proofs.search.pack_placement.Goals.{After-settle}
use Rattle.heap_calls.proofs.search.pack_placement.Goals as goal

-- the run that is packed
found : (g : Over) (c : After-settle g) → FindsPlacement c.args.bytes (g.S.BlockStore.zone c.args.store.now)
    (Some (see.Run c.in-Run.run'))
found g c =
    let P : Placement → Type 0 = λ s. FindsPlacement c.args.bytes (g.S.BlockStore.zone c.args.store.now) (Some s) in
    subst P c.in-Run.is c.requires.found

-- the zone with that run packed
packed : (g : Over) (c : After-settle g) → g.S.BlockStore.zone c.settle.new.self
    ≡ tidy (with_run settle (found g c).1.0)
packed g c =
    let zone = g.S.BlockStore.zone c.args.store.now in
    at_run c.in-Run.run' zone zone (found g c).1.0 (λ r. g.S.BlockStore.zone c.settle.new.self
    ≡ tidy (with_run settle r)) refl (found g c).1.2 c.settle.ensures.zone

pub unreachable-requires : goal.unreachable-requires
unreachable-requires g c =
    let at = (goal.at.unreachable-requires g c).After-settle in
    let r = (found g at).1 in
    let store' = c.settle.new.self in
    room-found c.args.bytes c.requires.positive (g.S.BlockStore.zone c.args.store.now) r.0 r.1
    (g.S.BlockStore.zone store') (packed g at) c.in_default.ensures

pub returns-clause-kept : goal.returns-clause-kept
returns-clause-kept g c number none =
    let at = (goal.at.returns-clause-kept g c).After-settle in
    let r = (found g at).1 in
    ap (has (is_relocatable number)) (packed g at) ∙ none-settled (is_relocatable number) (λ n. refl)
    (has_free c.args.bytes) (g.S.BlockStore.zone c.args.store.now) r.0 r.1 none

pub returns-clause-blocks : goal.returns-clause-blocks
returns-clause-blocks g c =
    let at = (goal.at.returns-clause-blocks g c).After-settle in
    let r = (found g at).1 in
    λ number. ap (block_of number) (packed g at) ∙ settle-blocks c.in-Run.run' (g.S.BlockStore.zone c.args.store.now)
    r.0 r.2 number

pub returns-clause-nonrelocatable : goal.returns-clause-nonrelocatable
returns-clause-nonrelocatable g c place =
    let at = (goal.at.returns-clause-nonrelocatable g c).After-settle in
    let r = (found g at).1 in
    ap (has (is_nonrelocatable place)) (packed g at) ∙ nonrelocatable-run_at settle none-settle c.in-Run.run'
    (g.S.BlockStore.zone c.args.store.now) r.0 r.2 place

pub returns-in-Free-clause-moves : goal.returns-in-Free-clause-moves
returns-in-Free-clause-moves g c =
    let zone = g.S.BlockStore.zone c.args.store.now in
    let rest = g.S.BlockStore.rest c.args.store.now in
    let P : Placement → Type 0 = λ s. FindsPlacement c.args.bytes zone (Some s) in
    let found : P (see.Free _) = subst P c.in-Free.is c.requires.found in
    packs-none rest rest (place_lowers c.args.bytes zone) refl (at-free c.args.bytes _ zone found)

pub returns-clause-moves : goal.returns-clause-moves
returns-clause-moves g c =
    let zone = g.S.BlockStore.zone c.args.store.now in
    let rest = g.S.BlockStore.rest c.args.store.now in
    let rest' = g.S.BlockStore.rest c.settle.new.self in
    let placement = found g (goal.at.returns-clause-moves g c).After-settle in
    let r = placement.1.0 in
    let packed = at_run c.in-Run.run' zone zone r (λ r. IsRest (with_moves (lowered_in_run r.run) rest) rest') refl
    placement.1.2
    c.settle.ensures.rest in
    packs-run rest rest rest' (lowered_in_run r.run) (place_lowers c.args.bytes zone) refl packed
    (at-packed c.args.bytes c.in-Run.run' zone placement)
