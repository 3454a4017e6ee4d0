-- The bytes that blocks would free if they were purged. Inside Macintosh: Memory, chapter 1, "Purging and Reallocating
-- Blocks".
use Rattle.std.specs.Prelude.{ℕ, Option, Some, None, List, if◌then◌else◌}
use Rattle.block_store.specs.Block.{Block, size, is_purgeable, total}
use Rattle.block_store.specs.Room.{Spot}

-- The bytes that a block would free if it were purged: its physical size if it may be purged, else 0.
abbrev pub purgeable_of : Block → ℕ
purgeable_of b = if is_purgeable b then size b else 0

-- The bytes that blocks would free if all of them that may be purged were purged.
-- See decision 153 (a search ends where the whole zone has too few bytes).
abbrev pub purgeable_sum : List Block → ℕ
purgeable_sum blocks = total purgeable_of blocks

-- The bytes that the block at a spot would free if it were purged; 0 if there is no block.
abbrev pub purgeable_at : Option Spot → ℕ
purgeable_at None = 0
purgeable_at (Some s) = purgeable_of s.here
