use Rattle.fork_format.proofs.Cited.{◌≡◌, ◌+◌, ◌*◌, ◌-◌, map, true, list_all, joined, group_at, refs_fit, offsets, ArePlaces, view_group}
use Rattle.fork_format.proofs.read.read_joined.Given as goal

abbrev pub invariant-loop : goal.invariant-loop
invariant-loop l = record {
  at : l.at ≡ l.fn.first + 8 * l.counter;
  fits : list_all (refs_fit l.bytes) (offsets l.at 8 (l.count - l.counter)) ≡ true;
  places : ArePlaces l.places (map view_group l.groups.items);
  groups : map view_group l.groups.items ≡ joined (map (group_at l.bytes) (offsets l.fn.first 8 l.counter));
}
