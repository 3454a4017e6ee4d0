use Rattle.rez_text.proofs.Cited.{◌≡◌, ◌++◌, drop, map, clear_ref, view_ref, ref_said}
use Rattle.rez_text.proofs.source.lend_group.Given as goal

-- the resources that are lent, with those to come, are all
abbrev pub invariant-loop-resource : goal.invariant-loop-resource
invariant-loop-resource l =
    map view_ref l.refs.items ++ map clear_ref (map ref_said (drop l.resource-index l.group.refs.items))
    ≡ map clear_ref (map ref_said l.group.refs.items)
