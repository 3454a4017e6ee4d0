use Rattle.res_map.proofs.Cited.{◌≡◌, ◌∙◌, sym, subst, ap, rules, Some, None, w32, SFits, map, ◌≢◌, to_z-of_z, IsRising, IsToldAs}
use Rattle.res_map.proofs.Cited.{first_place, is_held, place_in, view_reference}
use Rattle.res_map.proofs.Weights.{each-left, first-left, none-left, row-there, some-left}
use Rattle.res_map.proofs.holding.let_go.Goals as goal

pub returns-then-is_none-clause-tells : goal.returns-then-is_none-clause-tells
returns-then-is_none-clause-tells c = λ rising each.
    let row = c.args.row in
    let rows = c.args.rows.now.items in
    let mid = c.take_row.new.rows.items in
    let references = map view_reference c.args.refs.now in
    let fits : SFits w32 row.key = search rules in
    let told = c.place_told.ensures (subst IsRising (sym c.as_slice.ensures.value) (c.take_row.ensures.rising rising))
    ∙ ap (place_in row.kind _) c.as_slice.ensures.value ∙ ap (λ i. place_in row.kind i mid) (to_z-of_z w32 row.key fits) in
    let none : c.place_told.result ≡ None = search rules in
    none-left row rows mid references
    (each-left row rows mid references (c.take_row.ensures.weights (row-there row rows references each) rising) each)
    c.take_row.ensures.others (sym told ∙ none)

pub returns-then-is_none-clause-each : goal.returns-then-is_none-clause-each
returns-then-is_none-clause-each c = λ rising each.
    let row = c.args.row in
    let rows = c.args.rows.now.items in
    let references = map view_reference c.args.refs.now in
    each-left row rows c.take_row.new.rows.items references
    (c.take_row.ensures.weights (row-there row rows references each) rising) each

pub returns-in-Some-clause-rising : goal.returns-in-Some-clause-rising
returns-in-Some-clause-rising c = λ rising. c.set_row.ensures.rising (c.take_row.ensures.rising rising)

pub returns-in-Some-clause-tells : goal.returns-in-Some-clause-tells
returns-in-Some-clause-tells c = λ rising each.
    let row = c.args.row in
    let rows = c.args.rows.now.items in
    let mid = c.take_row.new.rows.items in
    let references = map view_reference c.args.refs.now in
    let fits : SFits w32 row.key = search rules in
    let is = to_z-of_z w32 row.key fits in
    let mid-rising = c.take_row.ensures.rising rising in
    let told = c.place_told.ensures (subst IsRising (sym c.as_slice.ensures.value) mid-rising)
    ∙ ap (place_in row.kind _) c.as_slice.ensures.value ∙ ap (λ i. place_in row.kind i mid) is in
    let some : c.place_told.result ≢ None = search rules in
    let found : c.place_holding.result ≡ Some c.in-Some.place = search rules in
    first-left row rows mid c.set_row.new.rows.items (first_place (is_held row.kind row.key) references) (Some c.in-Some.place)
    (sym found ∙ c.place_holding.ensures ∙ ap (λ i. first_place (is_held row.kind i) references) is) c.take_row.ensures.others
    (subst (λ i. IsToldAs row.kind i (Some c.in-Some.place) mid c.set_row.new.rows.items) is
    (c.set_row.ensures.tells (λ none. some (told ∙ ap (λ i. place_in row.kind i mid) (sym is) ∙ none)) mid-rising))

pub returns-in-Some-clause-each : goal.returns-in-Some-clause-each
returns-in-Some-clause-each c = λ rising each f.
    let row = c.args.row in
    let rows = c.args.rows.now.items in
    let references = map view_reference c.args.refs.now in
    c.set_row.ensures.weights f
    ∙ each-left row rows c.take_row.new.rows.items references
    (c.take_row.ensures.weights (row-there row rows references each) rising) each f

pub returns-in_default-clause-tells : goal.returns-in_default-clause-tells
returns-in_default-clause-tells c = λ rising each.
    let row = c.args.row in
    let rows = c.args.rows.now.items in
    let mid = c.take_row.new.rows.items in
    let references = map view_reference c.args.refs.now in
    let fits : SFits w32 row.key = search rules in
    let is = to_z-of_z w32 row.key fits in
    let told = c.place_told.ensures (subst IsRising (sym c.as_slice.ensures.value) (c.take_row.ensures.rising rising))
    ∙ ap (place_in row.kind _) c.as_slice.ensures.value ∙ ap (λ i. place_in row.kind i mid) is in
    let some : c.place_told.result ≢ None = search rules in
    let none : c.place_holding.result ≡ None = search rules in
    absurd (some-left row mid references
    (each-left row rows mid references (c.take_row.ensures.weights (row-there row rows references each) rising) each)
    (λ e. some (told ∙ e)) (ap (λ i. first_place (is_held row.kind i) references) (sym is) ∙ sym c.place_holding.ensures ∙ none))

pub returns-in_default-clause-each : goal.returns-in_default-clause-each
returns-in_default-clause-each c = λ rising each.
    let row = c.args.row in
    let rows = c.args.rows.now.items in
    let references = map view_reference c.args.refs.now in
    each-left row rows c.take_row.new.rows.items references
    (c.take_row.ensures.weights (row-there row rows references each) rising) each
