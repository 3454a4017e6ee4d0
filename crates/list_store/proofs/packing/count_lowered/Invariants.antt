use Rattle.list_store.proofs.Cited.{◌≡◌, ◌+◌, ◌≤◌, drop, cond, count, is_mover, lowered_in_run, blocks_of}
use Rattle.list_store.proofs.packing.count_lowered.Given as goal

-- how many so far, and that the rest gives the others
abbrev pub invariant-loop-entry : goal.invariant-loop-entry
invariant-loop-entry l = record {
  few : l.lowered ≤ l.entry-index;
  rest : l.lowered + cond l.below (count is_mover (drop l.entry-index (blocks_of l.run)))
      (lowered_in_run (drop l.entry-index (blocks_of l.run))) ≡ lowered_in_run (blocks_of l.run);
}
