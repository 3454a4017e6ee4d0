use Rattle.block_store.proofs.Cited.{◌≡◌, ◌+◌, length, option_map, sizes, Spot, spot, may_be_purged, spared, opened, purged}
use Rattle.block_store.proofs.Purged.Looks.{next_from}
use Rattle.block_store.proofs.looking.find_purgeable_in.Given as goal

-- the search through what is still to come gives the place
abbrev pub invariant-loop-block : goal.invariant-loop-block
invariant-loop-block g l = record {
  above : next_from l.place (spared l.sparing) l.left (opened l.sparing (g.W.Walk.rest l.walk))
      ≡ option_map (λ (s : Spot). sizes s.below)
      (spot (may_be_purged (spared l.sparing)) (purged l.purges l.sparing (g.W.Walk.rest l.initial.walk)));
  bytes : l.place + sizes (g.W.Walk.rest l.walk) ≡ sizes (g.W.Walk.rest l.initial.walk);
}

abbrev pub decreases-loop-block : goal.decreases-loop-block
decreases-loop-block g l = length (g.W.Walk.rest l.walk)
