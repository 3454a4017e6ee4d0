use Rattle.std.specs.Prelude.{ℕ, List, length}
use Rattle.mac_words.specs.Size.{phys}
use Rattle.block_store.specs.Block.{Block}
use Rattle.block_store.specs.Run.{runs}
use Rattle.block_store.specs.Compact.{lowered_in_runs, runs_settled}
use Rattle.heap_calls.specs.State.{State}
use Rattle.heap_calls.specs.Purging.{purged_all}

-- How many blocks a compaction moves down. Inside Macintosh: Memory, chapter 1, "Heap Compaction".

-- The moves of CompactMem.
abbrev pub compact_mem_moves : ℕ → State → ℕ
compact_mem_moves n s = lowered_in_runs (runs_settled (phys n) s.zone) (runs s.zone)

-- The moves where all runs are packed.
abbrev pub all_moves : List Block → ℕ
all_moves zone = lowered_in_runs (length (runs zone)) (runs zone)

-- The moves of MaxMem: those of packing all runs once every block is purged that may be purged.
abbrev pub max_mem_moves : State → ℕ
max_mem_moves s = all_moves (purged_all s.zone)
