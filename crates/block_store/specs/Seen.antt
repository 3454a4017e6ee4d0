use Rattle.std.specs.Prelude.{Bool, length}
use Rattle.block_store.specs.Block.{Block, Free, Nonrelocatable, Masters, Relocatable}
use Rattle.block_store.specs.Room.{Spot}
use Rattle.block_store.specs.Grow.{freed}
use Rattle.block_store.specs.declared.flags.Flags.{Flags}
use Rattle.block_store.specs.declared.sparing.Seen.{Seen}
use Rattle.block_store.specs.declared.sparing.Seen.TheVariants as see

-- The block without its bytes.
abbrev pub seen : Block → Seen
seen (Free n) = see.Free n
seen (Nonrelocatable id content) = see.Nonrelocatable (length content)
seen Masters = see.Masters
seen (Relocatable slot flags content) = see.Relocatable slot flags (length content)

-- The block with other flags, where it is relocatable.
abbrev pub with_flags : Flags → Block → Block
with_flags flags (Free n) = Free n
with_flags flags (Nonrelocatable id content) = Nonrelocatable id content
with_flags flags Masters = Masters
with_flags flags (Relocatable id old content) = Relocatable id flags content

-- The block in its place, after the block that passes the test has become a free block elsewhere in the zone.
abbrev pub moved_away : (Block → Bool) → Spot → Spot
moved_away test s = record s { below = freed test s.below; above = freed test s.above }
