use Rattle.std.specs.Prelude.{ℕ, Option, Some, None, Result, Ok, Err, List, ◌∷◌, ◌++◌}
use Rattle.block_store.specs.Block.{Block, is_relocatable, content_of, with_content}
use Rattle.memory_windows.specs.Writes.{written}
use Rattle.block_store.specs.Room.{Spot}
use Rattle.mac_words.specs.declared.code.OsErr.{OsErr}
use Rattle.heap_calls.specs.State.{State}
use Rattle.heap_calls.specs.Answer.{Held}
use Rattle.heap_calls.specs.Slots.{slotted_zone}

-- Copying and joining blocks. Inside Macintosh: Memory, chapter 2, "Manipulating Blocks of Memory".

-- The zone with bytes written into the block of the handle h from offset i on.
abbrev pub written_in : ℕ → ℕ → List ℕ → List Block → Option Spot → List Block
written_in h i x zone None = zone
written_in h i x zone (Some at) = at.below ++ with_content (written i x (content_of at.here)) at.here ∷ at.above

-- The zone with an unused master pointer for the copy of a handle's block, which is not purged for it.
abbrev pub copying_zone : Result Held OsErr → State → List Block
copying_zone (Err code) s = s.zone
copying_zone (Ok held) s = slotted_zone (is_relocatable held.number) s
