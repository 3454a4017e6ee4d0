use Rattle.res_map.proofs.Cited.{◌∙◌, ap, refl, map, List, Content, Map, Reference, all_anew, content, StoredReference, leading_groups}
use Rattle.res_map.proofs.Cited.{view_reference, view_all}
use Rattle.res_map.proofs.Contents.{ordered_anew, runs_ordered}
use Rattle.res_map.proofs.res_file.ResFile.content.Goals as goal

pub returns : goal.returns
returns c =
    let anew : List StoredReference → List Reference =
    λ rs. all_anew (view_all c.args.fresh.now) (map view_reference rs) in
    ap (λ gs. let x : Content = record { area = c.self.inside.area; attrs = c.self.inside.attrs; groups = gs } in x)
    (c.in_ok-groups.ensures ∙ ap (λ ks. leading_groups ks (anew c.as_slice-2.result.now)) c.as_slice.ensures.value
    ∙ ap (λ rs. leading_groups c.self.inside.kinds.items (anew rs)) c.as_slice-2.ensures.value
    ∙ runs_ordered c.self.inside.kinds.items (anew c.self.inside.refs.items)
    (ordered_anew _ _ _ _ c.self.invariant.0 refl))
    ∙ ap (λ (m : Map). content (record m { references = all_anew (view_all c.args.fresh.now) m.references }))
    c.self.view_is
