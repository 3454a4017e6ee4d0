use Rattle.res_map.proofs.Cited.{◌≡◌, ◌∙◌, ap, subst, map, List, rules, length-map, StoredReference, IsIndex, is_printed, view_reference}
use Rattle.res_map.proofs.Cited.{Group, view_group, is_resource, of_groups}
use Rattle.res_map.proofs.Contents.{ordered_groups}
use Rattle.res_map.proofs.Handles.{holding-none}
use Rattle.res_map.proofs.res_file.ResFile.open.Goals as goal

pub invariant_of-result : goal.invariant_of-result
invariant_of-result c =
    let groups : List Group = map view_group c.args.content.now.groups.items in
    let is : map view_group c.as_slice-groups.result.now ≡ groups =
    ap (map view_group) c.as_slice-groups.ensures.value in (
      ordered_groups groups _ _ c.requires.types c.requires.references
          (c.in_ok-kinds.ensures ∙ ap (map (λ (g : Group). g.kind)) is) (c.in_ok-refs.ensures ∙ ap of_groups is),
      subst (λ (l : List StoredReference). IsIndex is_resource c.in_ok-index.index.items (map view_reference l))
          c.as_slice.ensures.value c.in_ok-index.ensures,
      subst (λ (l : List StoredReference). IsIndex is_printed c.in_ok-names.names.items (map view_reference l))
          c.as_slice-2.ensures.value c.in_ok-names.ensures,
      holding-none groups c.in_ok-held.held.items _ (map view_reference c.in_ok-refs.refs.items)
          (c.in_ok-refs.ensures ∙ ap of_groups is) c.in_ok-held.ensures.items
          (let size = length-map c.in_ok-refs.refs.items view_reference in search (rules, size)),
    )
