use Rattle.res_map.proofs.Cited.{◌∙◌, sym, subst, ap, rules, w32, SFits, to_z-of_z, IsRising, place_in}
use Rattle.res_map.proofs.Rows.{told-some}
use Rattle.res_map.proofs.index.tell.Goals as goal

pub returns-in-Some-clause-tells : goal.returns-in-Some-clause-tells
returns-in-Some-clause-tells c = λ room rising.
    let fits : SFits w32 c.args.row.key = search rules in
    let told = c.place_told.ensures (subst IsRising (sym c.as_slice.ensures.value) rising)
    ∙ ap (place_in c.args.row.kind _) c.as_slice.ensures.value
    ∙ ap (λ i. place_in c.args.row.kind i c.args.rows.now.items) (to_z-of_z w32 c.args.row.key fits) in
    c.set_row.ensures.tells (told-some _ c.in-Some.field-0 _ told (search rules)) rising
