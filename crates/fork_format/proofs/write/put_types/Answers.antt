use Rattle.fork_format.proofs.Cited.{◌≡◌, ℕ, ◌+◌, ◌*◌, ◌≤◌, arith}
use Rattle.fork_format.proofs.Putting.{type-first}
use Rattle.fork_format.proofs.write.put_types.Goals.{After-len}
use Rattle.fork_format.proofs.write.put_types.Goals as goal

-- the group has some references, and they end low enough
low : (c : After-len) (n : ℕ) → n ≡ c.group-item.result.refs.len → (1 ≤ n) × (c.loop-group.at + 12 * n ≤ 65507)
low c n size = type-first c.args.groups.now c.loop-group.group-index c.loop-group.at n c.group-item.result
    c.loop-group-test.true c.group-item.is size c.loop-group.invariant.ends

pub overflow_cast-len : goal.overflow_cast-len
overflow_cast-len c =
    omega (arith, (low (goal.at.overflow_cast-len c).After-len c.len.result c.len.ensures).1)

pub overflow_cast-at : goal.overflow_cast-at
overflow_cast-at c = omega (arith, (low (goal.at.overflow_cast-at c).After-len c.len.result c.len.ensures).1)

pub overflow_mul-at : goal.overflow_mul-at
overflow_mul-at c =
    let n = c.len-in-loop-group in
    omega (arith, (low (goal.at.overflow_mul-at c).After-len n.result n.ensures).1)

pub overflow_add-at : goal.overflow_add-at
overflow_add-at c =
    let n = c.len-in-loop-group in
    omega (arith, (low (goal.at.overflow_add-at c).After-len n.result n.ensures).1)
