use Rattle.std.specs.Prelude.{◌≡◌, ℕ}
use Rattle.block_store.specs.Block.{tidy}
use Rattle.block_store.specs.Compact.{lowered, NoneRises}
use Rattle.heap_calls.specs.State.{State}
use Rattle.heap_calls.specs.Answer.{compact_mem}
use Rattle.heap_calls.specs.Locked.{OneBlockEach}
use Rattle.heap_calls.specs.Moves.{compact_mem_moves, max_mem_moves}
use Rattle.heap_calls.specs.Purging.{purged_all, max_mem}

-- Compaction moves each block at most once: it counts one move for each relocatable block that stands lower afterwards,
-- and leaves none higher. Inside Macintosh: Memory, chapter 1, "Heap Compaction".

-- CompactMem counts the relocatable blocks that stand lower after it than before, in a zone in which no handle has two
-- blocks, no free block has a size of 0 bytes, and no two free blocks are neighbours.
abbrev pub CompactCountsLowered : ℕ → State → Type 0
CompactCountsLowered n s =
    OneBlockEach s.zone → tidy s.zone ≡ s.zone → compact_mem_moves n s ≡ lowered s.zone (compact_mem n s).1.zone

-- CompactMem leaves no relocatable block higher than it was.
abbrev pub CompactRaisesNone : ℕ → State → Type 0
CompactRaisesNone n s = NoneRises s.zone (compact_mem n s).1.zone

-- MaxMem counts the relocatable blocks that stand lower after it than once every block that may be purged is purged,
-- in a zone in which no handle has two blocks.
abbrev pub MaxCountsLowered : State → Type 0
MaxCountsLowered s = OneBlockEach s.zone → max_mem_moves s ≡ lowered (purged_all s.zone) (max_mem s).1.zone

-- MaxMem leaves no relocatable block higher than it was once every block that may be purged was purged.
abbrev pub MaxRaisesNone : State → Type 0
MaxRaisesNone s = NoneRises (purged_all s.zone) (max_mem s).1.zone
