use Rattle.res_map.proofs.Cited.{◌≡◌, ◌∙◌, sym, rules, map, Some, view_reference}
use Rattle.res_map.proofs.Rows.{name-none, name-some, read-new}
use Rattle.res_map.proofs.changing.tell_name.Goals as goal

pub returns-in-Some : goal.returns-in-Some
returns-in-Some c = λ room references was now there is-old kind stays same index.
    let some : c.named_row_at.result ≡ Some c.in-Some.row = search rules in
    name-some c.args.names.now.items c.enter_named.new.rows.items (map view_reference c.args.refs.now) references
    c.args.index was now c.in-Some.row c.args.old there is-old kind
    (sym some ∙ read-new (map view_reference c.args.refs.now) references c.args.index was now c.named_row_at.result there same
    c.named_row_at.ensures) same (c.enter_named.ensures room) index

pub returns-in_default : goal.returns-in_default
returns-in_default c = λ room references was now there is-old kind stays same index.
    name-none c.args.names.now.items references c.args.index was now c.named_row_at.result there
    (read-new (map view_reference c.args.refs.now) references c.args.index was now c.named_row_at.result there same
    c.named_row_at.ensures) (search rules) stays index
