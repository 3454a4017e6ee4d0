use Rattle.fork_commands.proofs.Cited.{◌≡◌, ◌++◌, drop, map, big_number, view_ref, is_selected}
use Rattle.std.proofs.Common.{filter}
use Rattle.fork_commands.proofs.selecting.selected_group.Given as goal

-- the resources so far, with those of the others that are selected, are all
abbrev pub invariant-loop-resource : goal.invariant-loop-resource
invariant-loop-resource l = map view_ref l.refs.items
    ++ filter (is_selected l.selection (big_number 4 l.group.ty.0)) (map view_ref (drop l.resource-index l.group.refs.items))
    ≡ filter (is_selected l.selection (big_number 4 l.group.ty.0)) (map view_ref l.group.refs.items)
