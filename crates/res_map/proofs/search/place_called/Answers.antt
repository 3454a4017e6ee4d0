use Rattle.res_map.proofs.Cited.{◌≡◌, ◌∙◌, ap, rules, map, Some, None, ◌+◌, w32, SFits, sym, option_map, to_z-of_z, is_named, first_place}
use Rattle.res_map.proofs.Cited.{view_reference}
use Rattle.std.proofs.lemmas.List.{drop-map}
use Rattle.res_map.proofs.Called.{called-none, called-from, told-print}
use Rattle.res_map.proofs.search.place_called.Goals as goal

pub returns-in-None : goal.returns-in-None
returns-in-None c = λ index.
    let fits : SFits w32 c.print_of.result = search rules in
    let references = map view_reference c.args.refs.now in
    let none : c.place_told.result ≡ None = search rules in
    called-none c.args.kind c.args.text.now references
    (told-print c.args.kind c.args.text.now c.args.rows.now references c.print_of.result _ c.place_told.result
    c.print_of.ensures (to_z-of_z w32 c.print_of.result fits) (c.place_told.ensures index.rising) index ∙ none)

pub returns-in-Some : goal.returns-in-Some
returns-in-Some c = λ index.
    let fits : SFits w32 c.print_of.result = search rules in
    let references = map view_reference c.args.refs.now in
    let some : c.place_told.result ≡ Some c.in-Some.from = search rules in
    c.place_named.ensures
    ∙ ap (λ l. option_map (λ n. c.in-Some.from + n) (first_place (is_named c.args.kind c.args.text.now) l))
    (sym (drop-map view_reference c.in-Some.from c.args.refs.now))
    ∙ called-from c.args.kind c.args.text.now references c.in-Some.from
    (told-print c.args.kind c.args.text.now c.args.rows.now references c.print_of.result _ c.place_told.result
    c.print_of.ensures (to_z-of_z w32 c.print_of.result fits) (c.place_told.ensures index.rising) index ∙ some)
