use Rattle.fork_wrappers.proofs.Cited.{◌≡◌, ◌-◌, ◌++◌, replicate}
use Rattle.fork_wrappers.proofs.numbers.put_zeros.Given as goal

-- what was written, with the zeros that are left
abbrev pub invariant-loop : goal.invariant-loop
invariant-loop l =
    l.out.items ++ replicate (l.count - l.counter) 0 ≡ l.fn.out.items ++ replicate l.count 0
