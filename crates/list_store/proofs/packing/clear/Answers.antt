use Rattle.list_store.proofs.Cited.{◌++◌, take, drop, ◌∙◌, ap, arith, length-map, blocks_of, block_of, cleared_first, cleared-step}
use Rattle.list_store.proofs.packing.clear.Goals as goal

pub loop-i-preserved : goal.loop-i-preserved
loop-i-preserved c =
    let bs = blocks_of c.args.run.now in
    c.clear_if.ensures ∙ ap (λ l. take c.loop-i.i l ++ cleared_first (drop c.loop-i.i l)) c.loop-i.invariant
    ∙ cleared-step bs c.loop-i.i (omega (arith, c.loop-i-test.true, length-map c.args.run.now block_of))
