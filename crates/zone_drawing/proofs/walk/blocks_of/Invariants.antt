use Rattle.zone_drawing.proofs.Cited.{◌-◌, sizes}
use Rattle.zone_drawing.proofs.Walking.{Walked}
use Rattle.zone_drawing.proofs.walk.blocks_of.Given as goal

-- the blocks below the place were read
abbrev pub invariant-loop-place : goal.invariant-loop-place
invariant-loop-place g l = Walked (g.S.BlockStore.zone l.store) l.place l.blocks.items

abbrev pub decreases-loop-place : goal.decreases-loop-place
decreases-loop-place g l = sizes (g.S.BlockStore.zone l.store) - l.place
