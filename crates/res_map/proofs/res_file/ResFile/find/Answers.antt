use Rattle.res_map.proofs.Cited.{◌∙◌, ap, sym, subst, w16, w32, to_z, of_z, sfits_widen, to_z-of_z, big_number, Map, is_resource, IsRising}
use Rattle.res_map.proofs.Cited.{place_in, first_place}
use Rattle.res_map.proofs.res_file.ResFile.find.Goals as goal

pub returns : goal.returns
returns c =
    let rows = c.self.inside.index.items in
    c.place_told.ensures (subst IsRising (sym c.as_slice.ensures.value) c.self.invariant.1.rising)
    ∙ ap (place_in c.kind_of.result _) c.as_slice.ensures.value
    ∙ ap (λ i. place_in c.kind_of.result (to_z w32 (of_z w32 i)) rows) (to_z-of_z w16 c.args.id c.ranges.id)
    ∙ ap (λ i. place_in c.kind_of.result i rows) (to_z-of_z w32 c.args.id (sfits_widen tt c.ranges.id))
    ∙ ap (λ k. place_in k c.args.id rows) c.kind_of.ensures
    ∙ c.self.invariant.1.tells (big_number 4 c.args.ty.0) c.args.id
    ∙ ap (λ (m : Map). first_place (is_resource (big_number 4 c.args.ty.0) c.args.id) m.references) c.self.view_is
