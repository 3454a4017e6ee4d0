use Rattle.fork_format.proofs.Cited.{◌≡◌, ◌≤◌, map, drop, refs_of, behind, no_starts, view_group, most_data}
use Rattle.fork_format.proofs.fit.ends_of.Given as goal

abbrev pub invariant-loop-group : goal.invariant-loop-group
invariant-loop-group l = record {
  datum : l.ends.datum ≤ most_data;
  name : l.ends.name ≤ 65790;
  behind : behind l.ends (refs_of (map view_group (drop l.group-index l.groups)))
      ≡ behind no_starts (refs_of (map view_group l.groups));
}
