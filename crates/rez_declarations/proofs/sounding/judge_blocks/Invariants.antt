use Rattle.rez_declarations.proofs.Cited.{◌≡◌, [], drop, blocks_of, shapes_of}
use Rattle.rez_declarations.proofs.sounding.judge_blocks.Given as goal

-- the blocks to come are judged as all are
abbrev pub invariant-loop-block : goal.invariant-loop-block
invariant-loop-block l = shapes_of (blocks_of l.blocks) (blocks_of (drop l.block-index l.blocks)) l.shapes.items
    ≡ shapes_of (blocks_of l.blocks) (blocks_of l.blocks) []
