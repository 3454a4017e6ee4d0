use Rattle.heap_calls.proofs.Cited.{Some, subst, is_relocatable, spot, Grow, lowered_by, FindsGrowth, grown, Growth}
use Rattle.heap_calls.specs.declared.growing.Growth.TheVariants as grows
use Rattle.heap_calls.proofs.Room.MoveCounts.{packs-none, up-moves}
use Rattle.heap_calls.proofs.Same.Growing.{grown-named}
use Rattle.heap_calls.proofs.growing.carry_out.Goals as goal

pub returns-in-Up-clause-moves : goal.returns-in-Up-clause-moves
returns-in-Up-clause-moves g c =
    let zone = g.S.BlockStore.zone c.args.store.now in
    let t = is_relocatable c.args.number in
    let P : Growth → Type 0 = λ o. FindsGrowth t (grown c.args.size (spot t zone)) zone (Some o) in
    let found : P grows.Up = subst P c.in-Up.is c.requires.found in
    packs-none (g.S.BlockStore.rest c.args.store.now) (g.S.BlockStore.rest c.grow_up.new.store)
    (lowered_by (Grow (grown c.args.size (spot t zone))) zone) c.grow_up.ensures.rest.moves
    (up-moves t (grown c.args.size (spot t zone)) zone (grown-named c.args.number c.args.size zone found.0 found.1) found)
