use Rattle.fork_format.proofs.Cited.{◌≡◌, ◌++◌, map, drop, true, list_all, data_of, are_short, view_group}
use Rattle.fork_format.proofs.write.put_all_data.Given as goal

abbrev pub invariant-loop-group : goal.invariant-loop-group
invariant-loop-group l = record {
  short : list_all are_short (map view_group (drop l.group-index l.groups)) ≡ true;
  out : l.out.items ++ data_of (map view_group (drop l.group-index l.groups)) ≡ l.fn.out.items
      ++ data_of (map view_group l.groups);
}
