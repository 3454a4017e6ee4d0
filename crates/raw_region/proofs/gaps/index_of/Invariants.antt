use Rattle.raw_region.proofs.Cited.{length, ◌-◌, ◌≡◌, ◌+◌, ◌≤◌, drop, position_or_len, gap_is}
use Rattle.raw_region.proofs.gaps.index_of.Given as goal

abbrev pub invariant-loop-i : goal.invariant-loop-i
invariant-loop-i l = (1 ≤ l.i) × (l.i ≤ length l.gaps)
    × (l.i + position_or_len (gap_is l.at l.len) (drop l.i l.gaps)
    ≡ 1 + position_or_len (gap_is l.at l.len) (drop 1 l.gaps))

abbrev pub decreases-loop-i : goal.decreases-loop-i
decreases-loop-i l = length l.gaps - l.i
