use Rattle.heap_calls.proofs.Cited.{length, ◌≤◌, ◌+◌, content_of, used-some}
use Rattle.heap_calls.proofs.appending.copy_behind.Goals as goal

pub place_of-requires : goal.place_of-requires
place_of-requires g c =
    let store = c.args.store.now in
    used-some (g.S.BlockStore.rest store).slots (g.S.BlockStore.zone store) c.args.source
    (λ s. c.args.bytes ≤ length (content_of s.here)) (g.met.S.BlockStore.no_block store c.args.source) c.requires.source

pub place_of-requires-2 : goal.place_of-requires-2
place_of-requires-2 g c =
    let store = c.args.store.now in
    used-some (g.S.BlockStore.rest store).slots (g.S.BlockStore.zone store) c.args.slot
    (λ s. c.args.len + c.args.bytes ≤ length (content_of s.here)) (g.met.S.BlockStore.no_block store c.args.slot)
    c.requires.within
