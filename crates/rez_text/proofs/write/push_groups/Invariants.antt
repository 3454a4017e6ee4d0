use Rattle.rez_text.proofs.Cited.{◌≡◌, ◌++◌, drop, map, flat_map, view_group, group_statements}
use Rattle.rez_text.proofs.write.push_groups.Given as goal

-- the statements so far, with those to come, are all
abbrev pub invariant-loop-group : goal.invariant-loop-group
invariant-loop-group l = l.out.items ++ flat_map (group_statements l.lettering) (map view_group (drop l.group-index l.groups))
    ≡ l.fn.out.items ++ flat_map (group_statements l.lettering) (map view_group l.groups)
