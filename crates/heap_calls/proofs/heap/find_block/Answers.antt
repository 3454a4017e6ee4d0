use Rattle.heap_calls.proofs.Cited.{sym, ◌∙◌, ap, arith, Ok, same_Some, spot-passes, is_relocatable, Spot, rename_spot, handle_number}
use Rattle.heap_calls.proofs.Cited.{pointer_number}
use Rattle.heap_calls.proofs.Numbering.Answering.{place-small, header-fits, held}
use Rattle.heap_calls.proofs.heap.find_block.Goals as goal

pub returns : goal.returns
returns g c =
    let zone = g.S.BlockStore.zone c.args.store.now in
    let es = c.args.names.now in
    let k = c.in_ok-held.held in
    let reached = c.in_ok-held.ensures in
    let lowest = reached.3 in
    let same = same_Some _ _ (sym reached.2 ∙ lowest.1) in
    let high = place-small zone k.slot lowest.0 lowest.1 in
    let header = header-fits k.slot lowest.0.here (spot-passes (is_relocatable k.slot) zone lowest.0 lowest.1) in
    let small = g.met.S.BlockStore.small c.args.store.now in (
      k.number,
      lowest.0,
      reached.1 ∙ ap (λ (s : Spot). Ok (held k.number (rename_spot (handle_number es) (pointer_number es) s))) same,
      lowest.2,
      lowest.3,
      omega (arith, lowest.3, high, small, header),
    )
