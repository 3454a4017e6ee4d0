use Rattle.heap_calls.proofs.Cited.{ap, is_some, is_relocatable, used-there}
use Rattle.heap_calls.proofs.Sizes.Steady.{nonrelocatable-grown_up}
use Rattle.heap_calls.proofs.growing.grow_up.Goals as goal

pub place_of-requires : goal.place_of-requires
place_of-requires g c =
    let store = c.args.store.now in
    used-there (g.S.BlockStore.rest store).slots (g.S.BlockStore.zone store) c.args.number
    (g.met.S.BlockStore.no_block store c.args.number) (ap is_some c.requires.1)

pub returns-clause-nonrelocatable : goal.returns-clause-nonrelocatable
returns-clause-nonrelocatable g c =
    nonrelocatable-grown_up c.resize.result (is_relocatable c.args.number) c.args.size c.in-Some.place
    (g.S.BlockStore.zone c.args.store.now) (g.S.BlockStore.zone c.resize.new.self) c.requires c.in-Some.ensures
    c.resize.ensures.grown c.resize.ensures.err
