use Rattle.raw_region.proofs.Cited.{◌≡◌, ◌≤◌, ◌+◌, ◌-◌, ◌++◌, replicate, vec_capacity, vec_len, vec_ptr}
use Rattle.raw_region.proofs.gaps.filled.Given as goal

abbrev pub invariant-loop-i : goal.invariant-loop-i
invariant-loop-i l = (l.i ≤ l.count) × (l.vec.items ≡ l.initial.vec.items ++ replicate l.i 0)
    × (vec_len l.vec ≡ vec_len l.initial.vec + l.i) × (vec_capacity l.vec ≡ vec_capacity l.initial.vec)
    × (vec_ptr l.vec ≡ vec_ptr l.initial.vec)

abbrev pub decreases-loop-i : goal.decreases-loop-i
decreases-loop-i l = l.count - l.i
