-- What stretches hold in sum.
use Rattle.zone_marks.proofs.Cited.{◌+◌, ◌≤◌, List, [], ◌∷◌, arith, Block, sizes, join, load, prefix, suffix, stretch_by, Counting, Stretch}

pub load-join : (s t : Stretch) → load (join s t) ≤ load s + load t
load-join s t = grind arith

pub ends-load : (s t : Stretch) → suffix s + prefix t ≤ load s + load t
ends-load s t = grind arith

-- what stretches of blocks hold is no more than the blocks' bytes
pub load-counted : (c : Counting) (blocks : List Block) → load (stretch_by c blocks) ≤ sizes blocks
load-counted c [] = grind arith
load-counted c (b ∷ above) = grind (arith, load-counted c above, load-join)
