use Rattle.block_store.proofs.Cited.{◌≡◌, ◌+◌, ◌≤◌, length, option_map, sizes, RunSpot, run_spot, spared, opened, purged, suits, scan_runs}
use Rattle.block_store.proofs.run_search.search_runs_in.Given as goal

-- the search through what is still to come gives the place
abbrev pub invariant-loop-sparing : goal.invariant-loop-sparing
invariant-loop-sparing g l = record {
  above : scan_runs l.number l.bytes (spared l.sparing) l.scan.left l.scan.start l.scan.free l.scan.met l.scan.place
      (opened l.sparing (g.W.Walk.rest l.walk)) ≡ option_map (λ (r : RunSpot). sizes r.below)
      (run_spot (suits l.number l.bytes) (purged l.purges l.sparing (g.W.Walk.rest l.initial.walk)));
  bytes : l.scan.place + sizes (g.W.Walk.rest l.walk) ≡ sizes (g.W.Walk.rest l.initial.walk);
  free : l.scan.free ≤ l.scan.place;
}

abbrev pub decreases-loop-sparing : goal.decreases-loop-sparing
decreases-loop-sparing g l = length (g.W.Walk.rest l.walk)
