use Rattle.res_map.proofs.Cited.{◌∙◌, ◌+◌, Option, Some, sym, subst, ap, rules, w32, SFits, ℕ, to_z-of_z, IsRising, IsToldAs, place_in}
use Rattle.res_map.proofs.Cited.{row_weights, sooner}
use Rattle.res_map.proofs.index.put_sooner.Goals as goal

pub returns-clause-tells : goal.returns-clause-tells
returns-clause-tells c = λ room rising.
    let fits : SFits w32 c.args.row.key = search rules in
    let told = c.place_told-first.ensures (subst IsRising (sym c.as_slice.ensures.value) rising)
    ∙ ap (place_in c.args.row.kind _) c.as_slice.ensures.value
    ∙ ap (λ i. place_in c.args.row.kind i c.args.rows.now.items) (to_z-of_z w32 c.args.row.key fits) in
    subst (λ (o : Option ℕ). IsToldAs c.args.row.kind c.args.row.key o c.args.rows.now.items c.put_row.new.rows.items)
    (c.sooner-place.ensures ∙ ap (sooner c.args.row.place) told)
    (subst (λ i. IsToldAs c.args.row.kind i (Some c.sooner-place.result) c.args.rows.now.items c.put_row.new.rows.items)
    (to_z-of_z w32 c.args.row.key fits) (c.put_row.ensures.tells room rising))

pub returns-clause-weights : goal.returns-clause-weights
returns-clause-weights c = λ room f.
    let fits : SFits w32 c.args.row.key = search rules in
    c.put_row.ensures.weights room f
    ∙ ap (λ i. row_weights f c.args.rows.now.items + f c.args.row.kind i) (to_z-of_z w32 c.args.row.key fits)
