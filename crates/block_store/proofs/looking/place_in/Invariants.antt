use Rattle.block_store.proofs.Cited.{◌≡◌, ◌+◌, length, option_map, sizes, is_relocatable, Spot, spot}
use Rattle.block_store.proofs.Purged.Looks.{place_from}
use Rattle.block_store.proofs.looking.place_in.Given as goal

-- the place of the block among what is still to come is that among all
abbrev pub invariant-loop-block : goal.invariant-loop-block
invariant-loop-block g l = record {
  above : place_from l.below (is_relocatable l.number) (g.W.Walk.rest l.walk)
      ≡ option_map (λ (s : Spot). sizes s.below) (spot (is_relocatable l.number) (g.W.Walk.rest l.initial.walk));
  bytes : l.below + sizes (g.W.Walk.rest l.walk) ≡ sizes (g.W.Walk.rest l.initial.walk);
}

abbrev pub decreases-loop-block : goal.decreases-loop-block
decreases-loop-block g l = length (g.W.Walk.rest l.walk)
