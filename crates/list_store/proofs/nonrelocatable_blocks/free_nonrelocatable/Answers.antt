use Rattle.list_store.proofs.Cited.{◌++◌, take, drop, ◌∙◌, ap, arith, length-map, sizes, is_nonrelocatable, blocks_of, block_of}
use Rattle.list_store.proofs.Cited.{freed_first, sizes-freed}
use Rattle.list_store.proofs.Zone.Listing.{freed-step}
use Rattle.list_store.proofs.nonrelocatable_blocks.free_nonrelocatable.Goals as goal

pub free_if-requires-clause-fits : goal.free_if-requires-clause-fits
free_if-requires-clause-fits c =
    let bs = blocks_of c.args.entries.now.items in
    omega (arith, ap sizes c.loop-i.invariant ∙ sizes-freed (is_nonrelocatable c.args.place) bs c.loop-i.i)

pub loop-i-preserved : goal.loop-i-preserved
loop-i-preserved c =
    let bs = blocks_of c.args.entries.now.items in
    c.free_if.ensures ∙ ap (λ l. take c.loop-i.i l ++ freed_first (is_nonrelocatable c.args.place) (drop c.loop-i.i l))
    c.loop-i.invariant ∙ freed-step (is_nonrelocatable c.args.place) bs c.loop-i.i
    (omega (arith, length-map c.args.entries.now.items block_of))
