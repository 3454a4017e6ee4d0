use Rattle.std.specs.Prelude.{ℕ, ◌-◌, Bool, false, Option, Some, None, List, ◌++◌}
use Rattle.mac_words.specs.Size.{padded}
use Rattle.block_store.specs.Block.{Block, Free, free_sum, free, is_room, add}
use Rattle.block_store.specs.Run.{Stretch, movers, joined, segments}
use Rattle.block_store.specs.Room.{Spot, purge}
use Rattle.block_store.specs.declared.sparing.Seen.{Seen}
use Rattle.block_store.specs.declared.sparing.Seen.TheVariants as see
use Rattle.block_store.specs.declared.measures.TheConstants.{MASTERS_SIZE}

-- The physical size of a block, as it is seen.
abbrev pub seen_size : Seen → ℕ
seen_size (see.Free n) = n
seen_size (see.Nonrelocatable n) = padded n
seen_size see.Masters = MASTERS_SIZE
seen_size (see.Relocatable slot flags n) = padded n

-- Whether the block at a spot is a free block of at least d bytes.
abbrev pub room_at : ℕ → Option Spot → Bool
room_at d None = false
room_at d (Some s) = is_room d s.here

-- A run and the parts above it, without d free bytes at the bottom of the run.
abbrev pub above_taken : ℕ → List Block → List Stretch → List Block
above_taken d run parts = joined (movers run ++ free (free_sum run - d)) parts

-- The blocks above a block, with d free bytes at the bottom of the first run, from which k blocks are purged.
abbrev pub pushed_up : ℕ → ℕ → (Block → Bool) → List Block → List Block
pushed_up d k spared above = add (Free d) (above_taken d (purge k spared (segments above).first) (segments above).rest)
