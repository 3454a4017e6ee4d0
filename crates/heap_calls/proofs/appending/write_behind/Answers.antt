use Rattle.heap_calls.proofs.Cited.{length, ◌≤◌, ◌+◌, content_of, used-some}
use Rattle.heap_calls.proofs.appending.write_behind.Goals as goal

pub place_of-requires : goal.place_of-requires
place_of-requires g c =
    let store = c.args.store.now in
    used-some (g.S.BlockStore.rest store).slots (g.S.BlockStore.zone store) c.args.slot
    (λ s. c.args.len + length c.args.bytes.now ≤ length (content_of s.here))
    (g.met.S.BlockStore.no_block store c.args.slot) c.requires
