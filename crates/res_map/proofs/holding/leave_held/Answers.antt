use Rattle.res_map.proofs.Cited.{◌≡◌, ◌∙◌, sym, rules, Some, None, map, view_reference}
use Rattle.res_map.proofs.Handles.{holding-gone, holding-left}
use Rattle.res_map.proofs.holding.leave_held.Goals as goal

pub returns-in-Some-clause-held : goal.returns-in-Some-clause-held
returns-in-Some-clause-held c = λ capacity references old there own left holding.
    let some : c.args.row ≡ Some c.in-Some.row = search rules in
    holding-left c.args.rows.now.items c.lower_all.new.rows.items c.let_go.new.rows.items capacity c.in-Some.row
    c.args.place references (map view_reference c.args.refs.now) old there (sym some ∙ own) left
    c.lower_all.ensures.items c.let_go.ensures.rising c.let_go.ensures.tells c.let_go.ensures.each holding

pub returns-in_default-clause-held : goal.returns-in_default-clause-held
returns-in_default-clause-held c = λ capacity references old there own left holding.
    let none : c.args.row ≡ None = search rules in
    holding-gone c.args.rows.now.items c.lower_all.new.rows.items capacity c.args.place references old there
    (sym none ∙ own) c.lower_all.ensures.items holding
