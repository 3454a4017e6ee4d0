use Rattle.heap_calls.proofs.Cited.{◌≡◌, ◌≤◌, ap, arith, length, length_of, sizes, spot_at, IfSome_then}
use Rattle.heap_calls.proofs.Sizes.Behind.{length-known}
use Rattle.heap_calls.proofs.appending.length_at.Given.{Over}
use Rattle.heap_calls.proofs.appending.length_at.Goals.{After-bytes}
use Rattle.heap_calls.proofs.appending.length_at.Goals as goal

known : (g : Over) (c : After-bytes g) → (length c.bytes.result.now
    ≡ length_of c.args.slot (g.S.BlockStore.zone c.args.store.now))
    × (length c.bytes.result.now ≤ sizes (g.S.BlockStore.zone c.args.store.now))
known g c =
    let zone = g.S.BlockStore.zone c.args.store.now in
    length-known c.args.slot c.args.place (length c.bytes.result.now) zone c.requires
    (IfSome_then (spot_at c.args.place zone) c.bytes.ensures (λ s e. ap length e))

pub returns-clause-is : goal.returns-clause-is
returns-clause-is g c = (known g c).0

pub overflow_cast-result : goal.overflow_cast-result
overflow_cast-result g c = let few = (known g c).1 in omega (arith, g.met.S.BlockStore.small c.args.store.now)

pub returns-clause-small : goal.returns-clause-small
returns-clause-small g c = let few = (known g c).1 in omega (arith, g.met.S.BlockStore.small c.args.store.now)
