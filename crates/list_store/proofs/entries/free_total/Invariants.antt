use Rattle.list_store.proofs.Cited.{◌≡◌, take, free_sum, blocks_of}
use Rattle.list_store.proofs.entries.free_total.Given as goal

-- the Free bytes so far
abbrev pub invariant-loop-entry : goal.invariant-loop-entry
invariant-loop-entry l = l.total ≡ free_sum (take l.entry-index (blocks_of l.entries))
