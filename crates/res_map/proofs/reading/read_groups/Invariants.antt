use Rattle.res_map.proofs.Cited.{◌≡◌, ◌++◌, map, drop, view_group, of_groups, view_reference}
use Rattle.res_map.proofs.reading.read_groups.Given as goal

-- the references so far, with those to come, are all
abbrev pub invariant-loop-group : goal.invariant-loop-group
invariant-loop-group l = map view_reference l.refs.items ++ of_groups (map view_group (drop l.group-index l.groups))
    ≡ of_groups (map view_group l.groups)
