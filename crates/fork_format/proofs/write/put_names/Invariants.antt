use Rattle.fork_format.proofs.Cited.{◌≡◌, ◌++◌, map, drop, flat_map, name, view_ref}
use Rattle.fork_format.proofs.write.put_names.Given as goal

abbrev pub invariant-loop-r : goal.invariant-loop-r
invariant-loop-r l = l.out.items ++ flat_map name (map view_ref (drop l.r-index l.refs)) ≡ l.fn.out.items
    ++ flat_map name (map view_ref l.refs)
