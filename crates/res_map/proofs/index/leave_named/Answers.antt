use Rattle.res_map.proofs.Cited.{◌≡◌, ◌∙◌, sym, subst, ap, rules, Option, Some, None, w32, SFits, map, slice_get, remove, to_z-of_z}
use Rattle.res_map.proofs.Cited.{IsIndex, IsRowOf, first_place, is_printed, view_reference, Row}
use Rattle.res_map.proofs.Rows.{index-gone}
use Rattle.res_map.proofs.index.leave_named.Goals as goal

pub returns-in-None : goal.returns-in-None
returns-in-None c = λ references x there own left index.
    let none : c.args.row ≡ None = search rules in
    index-gone is_printed c.args.rows.now.items c.lower_all.new.rows.items c.args.place references x there
    (subst (λ (o : Option Row). IsRowOf is_printed o x) none own) index c.lower_all.ensures.items

pub returns-in-Some : goal.returns-in-Some
returns-in-Some c = λ references x there own left index.
    let row = c.in-Some.row in
    let some : c.args.row ≡ Some row = search rules in
    let at : row.place ≡ c.args.place = search rules in
    let fits : SFits w32 row.key = search rules in
    subst (λ n. IsIndex is_printed c.leave.new.rows.items (remove references n)) at
    (c.leave.ensures is_printed references x (ap (slice_get references) at ∙ there)
    (subst (λ (o : Option Row). IsRowOf is_printed o x) some own)
    (c.place_printed.ensures
    ∙ ap (λ i. first_place (is_printed row.kind i) (map view_reference c.args.refs.now)) (to_z-of_z w32 row.key fits)
    ∙ ap (first_place (is_printed row.kind row.key)) (left ∙ ap (remove references) (sym at))) index)
