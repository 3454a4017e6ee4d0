use Rattle.res_map.proofs.Cited.{◌∙◌, sym, subst, ap, rules, w32, SFits, to_z-of_z, IsRising, place_in}
use Rattle.res_map.proofs.Rows.{kept-told, new-told}
use Rattle.res_map.proofs.index.tell_sooner.Goals as goal

pub returns-then-not-is_sooner-clause-tells : goal.returns-then-not-is_sooner-clause-tells
returns-then-not-is_sooner-clause-tells c = λ room rising.
    let fits : SFits w32 c.args.row.key = search rules in
    let told = c.place_told.ensures (subst IsRising (sym c.as_slice.ensures.value) rising)
    ∙ ap (place_in c.args.row.kind _) c.as_slice.ensures.value
    ∙ ap (λ i. place_in c.args.row.kind i c.args.rows.now.items) (to_z-of_z w32 c.args.row.key fits) in
    new-told c.args.rows.now.items c.tell.new.rows.items c.args.row c.place_told.result told (search rules)
    (c.tell.ensures.tells room rising)

pub returns-else-not-is_sooner-clause-tells : goal.returns-else-not-is_sooner-clause-tells
returns-else-not-is_sooner-clause-tells c = λ room rising.
    let fits : SFits w32 c.args.row.key = search rules in
    let told = c.place_told.ensures (subst IsRising (sym c.as_slice.ensures.value) rising)
    ∙ ap (place_in c.args.row.kind _) c.as_slice.ensures.value
    ∙ ap (λ i. place_in c.args.row.kind i c.args.rows.now.items) (to_z-of_z w32 c.args.row.key fits) in
    kept-told c.args.rows.now.items c.args.row c.place_told.result told (search rules)
