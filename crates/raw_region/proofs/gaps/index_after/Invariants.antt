use Rattle.raw_region.proofs.Cited.{length, ◌-◌, ◌≡◌, ◌+◌, ◌≤◌, drop, prefix_len, gap_ends_by}
use Rattle.raw_region.proofs.gaps.index_after.Given as goal

abbrev pub invariant-loop-i : goal.invariant-loop-i
invariant-loop-i l = (1 ≤ l.i) × (l.i ≤ length l.gaps)
    × (l.i + prefix_len (gap_ends_by l.at) (drop l.i l.gaps) ≡ 1 + prefix_len (gap_ends_by l.at) (drop 1 l.gaps))

abbrev pub decreases-loop-i : goal.decreases-loop-i
decreases-loop-i l = length l.gaps - l.i
