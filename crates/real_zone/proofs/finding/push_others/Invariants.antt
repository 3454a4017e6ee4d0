use Rattle.real_zone.proofs.Cited.{◌≡◌, ◌+◌, ◌*◌, ◌/◌, ◌-◌, ◌++◌, flat_map, found_unnamed, found_others, fourths}
use Rattle.real_zone.proofs.finding.push_others.Given as goal

-- the zones so far, with those at the addresses that are left, are all
abbrev pub invariant-loop : goal.invariant-loop
invariant-loop l = record {
  place : l.address ≡ (l.base + 3) / 4 * 4 + 4 * l.counter;
  found : l.found.items ++ flat_map (found_unnamed l.bytes l.base) (fourths (l.count - l.counter) l.address)
      ≡ l.fn.found.items ++ found_others l.bytes l.base;
}
