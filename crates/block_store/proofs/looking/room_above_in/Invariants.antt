use Rattle.block_store.proofs.Cited.{◌≡◌, length, is_relocatable}
use Rattle.block_store.proofs.Purged.Looks.{above_spot}
use Rattle.block_store.proofs.looking.room_above_in.Given as goal

-- what is still to come gives what is above the block, as all do
abbrev pub invariant-loop-block : goal.invariant-loop-block
invariant-loop-block g l = record {
  above : above_spot (is_relocatable l.number) (g.W.Walk.rest l.walk)
      ≡ above_spot (is_relocatable l.number) (g.W.Walk.rest l.initial.walk);
}

abbrev pub decreases-loop-block : goal.decreases-loop-block
decreases-loop-block g l = length (g.W.Walk.rest l.walk)
