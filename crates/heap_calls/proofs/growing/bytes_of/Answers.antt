use Rattle.heap_calls.proofs.Cited.{used-there}
use Rattle.heap_calls.proofs.growing.bytes_of.Goals as goal

pub place_of-requires : goal.place_of-requires
place_of-requires g c =
    let store = c.args.store.now in
    used-there (g.S.BlockStore.rest store).slots (g.S.BlockStore.zone store) c.args.number
    (g.met.S.BlockStore.no_block store c.args.number) c.requires
