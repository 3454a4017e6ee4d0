use Rattle.rez_templates.proofs.Cited.{◌≡◌, drop, map, view_group, view_ref, types_of, with_all, with_bundle}
use Rattle.rez_templates.proofs.declaring.declare_all_signatures.Given as goal

-- the resources to come lead to what all lead to
abbrev pub invariant-loop-r : goal.invariant-loop-r
invariant-loop-r l =
    with_all (with_bundle (map view_group l.groups)) (map view_ref (drop l.r-index l.refs)) (types_of l.types)
    ≡ with_all (with_bundle (map view_group l.groups)) (map view_ref l.refs) (types_of l.fn.types)
