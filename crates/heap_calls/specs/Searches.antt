use Rattle.std.specs.Prelude.{ℕ, ◌+◌}
use Rattle.mac_words.specs.Size.{phys}
use Rattle.block_store.specs.Run.{runs}
use Rattle.block_store.specs.Compact.{runs_settled, stretches}
use Rattle.heap_calls.specs.State.{State}
use Rattle.heap_calls.specs.Purging.{blocks_purged}

-- How many searches the calls make that go by no path.

-- The searches of CompactMem: one more than the runs with blocks that it compacts.
abbrev pub compact_mem_searches : ℕ → State → ℕ
compact_mem_searches n s = stretches (runs_settled (phys n) s.zone) (runs s.zone) + 1

-- The searches of PurgeMem: one more than the blocks that it purges.
abbrev pub purge_mem_searches : ℕ → State → ℕ
purge_mem_searches n s = blocks_purged (phys n) s.zone + 1
