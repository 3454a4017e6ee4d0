use Rattle.rez_templates.proofs.Cited.{◌≡◌, drop, map, list_any, is_of, view_group}
use Rattle.rez_templates.proofs.declaring.has_resources.Given as goal

-- some group to come is of the type, if some of all is
abbrev pub invariant-loop-group : goal.invariant-loop-group
invariant-loop-group l =
    list_any (is_of l.kind) (map view_group (drop l.group-index l.groups)) ≡ list_any (is_of l.kind) (map view_group l.groups)
