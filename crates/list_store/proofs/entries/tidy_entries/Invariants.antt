use Rattle.list_store.proofs.Cited.{◌≡◌, ◌≤◌, ◌++◌, length, take, drop, tidy, blocks_of}
use Rattle.list_store.proofs.entries.tidy_entries.Given as goal

-- what is above is tidy
abbrev pub invariant-loop-i : goal.invariant-loop-i
invariant-loop-i l = record {
  within : l.i ≤ length l.initial.entries.items;
  above : blocks_of l.entries.items ≡ take l.i (blocks_of l.initial.entries.items)
      ++ tidy (drop l.i (blocks_of l.initial.entries.items));
}

abbrev pub decreases-loop-i : goal.decreases-loop-i
decreases-loop-i l = l.i
