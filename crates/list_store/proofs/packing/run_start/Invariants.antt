use Rattle.list_store.proofs.Cited.{◌≡◌, take, drop, option_map, run_at, run_raised, blocks_of, walked}
use Rattle.list_store.proofs.packing.run_start.Given as goal

-- the rest of the entries gives the run
abbrev pub invariant-loop-i : goal.invariant-loop-i
invariant-loop-i l = option_map (run_raised (take l.i (blocks_of l.entries)))
    (walked l.bottom l.rest (drop l.i (blocks_of l.entries))) ≡ run_at l.place (blocks_of l.entries)
