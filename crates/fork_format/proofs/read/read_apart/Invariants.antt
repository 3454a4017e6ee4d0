use Rattle.fork_format.proofs.Cited.{◌≡◌, ◌+◌, ◌*◌, ◌-◌, ◌++◌, map, true, list_all, group_at, refs_fit, offsets, view_group}
use Rattle.fork_format.proofs.read.read_apart.Given as goal

-- the groups so far, with those to come, are all
abbrev pub invariant-loop : goal.invariant-loop
invariant-loop l = record {
  at : l.at ≡ l.fn.first + 8 * l.counter;
  fits : list_all (refs_fit l.bytes) (offsets l.at 8 (l.count - l.counter)) ≡ true;
  groups : map view_group l.groups.items ++ map (group_at l.bytes) (offsets l.at 8 (l.count - l.counter))
      ≡ map (group_at l.bytes) (offsets l.fn.first 8 l.count);
}
