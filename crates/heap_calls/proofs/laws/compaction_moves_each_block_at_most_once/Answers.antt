use Rattle.heap_calls.proofs.Promises.AllLowered.{compact-lowered, compact-raises_none, max-lowered, max-raises_none}
use Rattle.heap_calls.proofs.Promises.AtMostOnce.{compact_mem_once, max_mem_once}
use Rattle.heap_calls.proofs.laws.compaction_moves_each_block_at_most_once.Goals as goal

pub returns-clause-compact_mem_counts : goal.returns-clause-compact_mem_counts
returns-clause-compact_mem_counts c = compact-lowered

pub returns-clause-compact_mem_raises_none : goal.returns-clause-compact_mem_raises_none
returns-clause-compact_mem_raises_none c = compact-raises_none

pub returns-clause-max_mem_counts : goal.returns-clause-max_mem_counts
returns-clause-max_mem_counts c = max-lowered

pub returns-clause-max_mem_raises_none : goal.returns-clause-max_mem_raises_none
returns-clause-max_mem_raises_none c = max-raises_none

pub returns-clause-compact_mem : goal.returns-clause-compact_mem
returns-clause-compact_mem c = compact_mem_once

pub returns-clause-max_mem : goal.returns-clause-max_mem
returns-clause-max_mem c = max_mem_once
