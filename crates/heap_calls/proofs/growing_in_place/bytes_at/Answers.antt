use Rattle.heap_calls.proofs.Cited.{sym, ◌∙◌, ap, arith, spot_at, seen_size, size-seen}
use Rattle.heap_calls.proofs.Sizes.GrowingInPlace.{seen-some, spot-small}
use Rattle.heap_calls.proofs.growing_in_place.bytes_at.Goals as goal

pub seen_bytes-requires : goal.seen_bytes-requires
seen_bytes-requires g c =
    let zone = g.S.BlockStore.zone c.args.store.now in
    let found = seen-some (spot_at c.args.place zone) c.in-Some.seen (sym c.block_at.ensures ∙ c.in-Some.is) in
    let is = ap seen_size found.2 ∙ size-seen found.0.here in
    omega (arith, is, spot-small c.args.place zone found.0 found.1, g.met.S.BlockStore.small c.args.store.now)
