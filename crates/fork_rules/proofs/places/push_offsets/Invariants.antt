use Rattle.fork_rules.proofs.Cited.{◌≡◌, ◌+◌, ◌*◌, ◌-◌, ◌≤◌, ◌++◌, offsets}
use Rattle.fork_rules.proofs.places.push_offsets.Given as goal

-- the offsets so far, with those that are left, are all
abbrev pub invariant-loop : goal.invariant-loop
invariant-loop l = record {
  low : l.at ≤ l.fn.first + 12 * l.counter;
  all : l.places.items ++ offsets l.at l.step (l.count - l.counter)
      ≡ l.fn.places.items ++ offsets l.fn.first l.step l.count;
}
