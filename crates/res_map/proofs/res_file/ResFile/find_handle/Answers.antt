use Rattle.res_map.proofs.Cited.{◌∙◌, ap, sym, subst, Row, List, map, Map, has_handle, view_reference, IsIndex, first_place, is_held}
use Rattle.res_map.proofs.res_file.ResFile.find_handle.Goals as goal

pub returns : goal.returns
returns c =
    c.place_held.ensures (map view_reference c.self.inside.refs.items)
    (subst (λ (l : List Row). IsIndex is_held l (map view_reference c.self.inside.refs.items))
    (sym c.as_slice.ensures.value) c.self.invariant.3.index)
    ∙ ap (λ (m : Map). first_place (has_handle c.args.handle) m.references) c.self.view_is
