use Rattle.list_store.proofs.Cited.{◌∙◌, sym, arith, length-map, spared, blocks_of, block_of, lowest_purged-end}
use Rattle.list_store.proofs.purging.empty_from.Goals as goal

pub returns-clause-blocks : goal.returns-clause-blocks
returns-clause-blocks c =
    sym (lowest_purged-end (spared c.args.sparing) (blocks_of c.loop-i.entries.items) c.loop-i.left c.loop-i.i
    (omega (arith, c.loop-i.invariant.many, length-map c.loop-i.entries.items block_of))) ∙ c.loop-i.invariant.blocks
