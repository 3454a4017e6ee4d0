use Rattle.raw_region.proofs.Cited.{◌≡◌, ◌≤◌, ◌-◌, take, drop, written}
use Rattle.raw_region.proofs.moves.move_down.Given as goal

-- the first i are in place
abbrev pub invariant-loop-i : goal.invariant-loop-i
invariant-loop-i l = (l.i ≤ l.count) × (l.bytes ≡ written l.to (take l.i (drop l.from l.initial.bytes)) l.initial.bytes)

abbrev pub decreases-loop-i : goal.decreases-loop-i
decreases-loop-i l = l.count - l.i
