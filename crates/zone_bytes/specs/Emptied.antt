-- Blocks after all that may be purged were purged. Inside Macintosh: Memory, chapter 1, "Purging and Reallocating
-- Relocatable Blocks".
use Rattle.std.specs.Prelude.{Bool, if◌then◌else◌, List, map}
use Rattle.block_store.specs.Block.{Block, Free, size, tidy}
use Rattle.block_store.specs.Room.{may_be_purged}
use Rattle.block_store.specs.Sparing.{opened, spared}
use Rattle.block_store.specs.declared.sparing.Sparing.{Sparing}

-- A block after it was purged, if it may be.
abbrev pub emptied : (Block → Bool) → Block → Block
emptied spared b = if may_be_purged spared b then Free (size b) else b

-- The zone after all blocks that may be purged were purged.
abbrev pub all_purged : Sparing → List Block → List Block
all_purged n zone = tidy (map (emptied (spared n)) (opened n zone))
