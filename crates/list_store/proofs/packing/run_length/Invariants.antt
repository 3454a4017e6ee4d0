use Rattle.list_store.proofs.Cited.{◌≡◌, ◌++◌, take, drop, segments, beyond, blocks_of}
use Rattle.list_store.proofs.packing.run_length.Given as goal

-- the run goes on with the rest
abbrev pub invariant-loop-i : goal.invariant-loop-i
invariant-loop-i l = record {
  run : (segments (blocks_of l.entries)).first ≡ take l.i (blocks_of l.entries)
      ++ (segments (drop l.i (blocks_of l.entries))).first;
  above : beyond (segments (blocks_of l.entries)).rest ≡ beyond (segments (drop l.i (blocks_of l.entries))).rest;
}
