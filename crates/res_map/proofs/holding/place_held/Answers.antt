use Rattle.res_map.proofs.Cited.{◌∙◌, ap, rules, w32, SFits, to_z-of_z, place_in, Row}
use Rattle.res_map.proofs.Handles.{held-told}
use Rattle.res_map.proofs.holding.place_held.Goals as goal

pub returns : goal.returns
returns c = λ references index.
    let row = c.handle_row-row.result in
    let fits : SFits w32 row.key = search rules in
    c.place_told.ensures index.rising
    ∙ ap (λ i. place_in row.kind i c.args.rows.now) (to_z-of_z w32 row.key fits)
    ∙ ap (λ (r : Row). place_in r.kind r.key c.args.rows.now) c.handle_row-row.ensures
    ∙ held-told c.args.handle c.args.rows.now references index
