use Rattle.std.specs.Prelude.{List, map}
use Rattle.real_zone.specs.Blocks.{passed_from}
use Rattle.real_zone.specs.Seen.{block_at}
use Rattle.real_zone.specs.declared.block.Block.{Block}
use Rattle.real_zone.specs.declared.walk.Blocks.{Blocks}

-- The blocks that are still to come.
abbrev pub blocks_left : Blocks → List Block
blocks_left walk = map (block_at walk.form walk.address walk.bytes.now) (passed_from walk.form walk.bytes.now walk.at)
