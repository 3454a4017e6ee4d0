use Rattle.rez_typed.proofs.Cited.{◌≡◌, ◌++◌, drop, map, flat_map, view_group, types_of, typed_group}
use Rattle.rez_typed.proofs.source.push_groups.Given as goal

-- the statements so far, with those to come, are all
abbrev pub invariant-loop-group : goal.invariant-loop-group
invariant-loop-group l =
    l.out.items ++ flat_map (typed_group l.style (types_of l.types)) (map view_group (drop l.group-index l.groups))
    ≡ l.fn.out.items ++ flat_map (typed_group l.style (types_of l.types)) (map view_group l.groups)
