use Rattle.fork_format.proofs.Cited.{◌≡◌, ◌++◌, map, drop, names_of, view_group}
use Rattle.fork_format.proofs.write.put_all_names.Given as goal

abbrev pub invariant-loop-group : goal.invariant-loop-group
invariant-loop-group l = l.out.items ++ names_of (map view_group (drop l.group-index l.groups)) ≡ l.fn.out.items
    ++ names_of (map view_group l.groups)
