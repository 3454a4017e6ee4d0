use Rattle.fork_commands.proofs.Cited.{◌≡◌, ◌++◌, drop, map, has_refs, view_group, selected_group}
use Rattle.std.proofs.Common.{filter}
use Rattle.fork_commands.proofs.selecting.selected_groups.Given as goal

-- the groups so far, with those of the others that are selected, are all
abbrev pub invariant-loop-group : goal.invariant-loop-group
invariant-loop-group l = map view_group l.out.items
    ++ filter has_refs (map (selected_group l.selection) (map view_group (drop l.group-index l.groups)))
    ≡ filter has_refs (map (selected_group l.selection) (map view_group l.groups))
