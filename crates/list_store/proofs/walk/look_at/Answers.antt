use Rattle.list_store.proofs.Cited.{◌∙◌, ◌+◌, drop, sym, ap, arith, Some, option_map, Spot, seen, blocks_of, block_of}
use Rattle.list_store.proofs.Zone.Listing.{drop-blocks, entry_fits, nth_spot-at}
use Rattle.list_store.proofs.walk.look_at.Goals as goal

pub look-requires : goal.look-requires
look-requires c = omega (
  arith,
  entry_fits c.args.entries.now c.in_ok-i.i c.index-entries-i.result c.in_ok-i.ensures.0 c.index-entries-i.is,
)

pub returns : goal.returns
returns c =
    let es = c.args.entries.now in
    let i = c.in_ok-i.i in
    let e = c.index-entries-i.result in
    sym (ap (option_map (λ (s : Spot). seen s.here)) (c.in_ok-i.ensures.1 ∙ nth_spot-at i (blocks_of es) (block_of e)
    (drop (i + 1) (blocks_of es)) (drop-blocks es i e c.in_ok-i.ensures.0 c.index-entries-i.is))
    ∙ ap Some (sym c.look.ensures))
