use Rattle.rez_templates.proofs.Cited.{◌≡◌, drop, map, view_group, refs_of_type}
use Rattle.rez_templates.proofs.declaring.refs_of_type.Given as goal

-- those of the groups to come are those of all
abbrev pub invariant-loop-group : goal.invariant-loop-group
invariant-loop-group l =
    refs_of_type l.kind (map view_group (drop l.group-index l.groups)) ≡ refs_of_type l.kind (map view_group l.groups)
