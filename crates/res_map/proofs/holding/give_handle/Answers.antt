use Rattle.res_map.proofs.Cited.{vec_capacity, ◌<◌, ℕ, map, sym, subst, rules, length-map, view_reference}
use Rattle.res_map.proofs.Handles.{holding-given, room-for}
use Rattle.res_map.proofs.holding.give_handle.Goals as goal

pub returns-clause-held : goal.returns-clause-held
returns-clause-held c = λ none holding.
    let inside = subst (λ (n : ℕ). c.args.index < n) (sym (length-map c.args.refs.now.items view_reference)) c.requires in
    let room = room-for c.args.rows.now.items (vec_capacity c.args.rows.now) (map view_reference c.args.refs.now.items)
    c.args.index none inside holding in
    holding-given c.args.rows.now.items c.put_sooner.new.rows.items (vec_capacity c.args.rows.now)
    (vec_capacity c.put_sooner.new.rows) c.handle_row.result c.args.handle c.args.index
    (map view_reference c.args.refs.now.items) (map view_reference c.put_handle.new.refs.items) inside none
    c.handle_row.ensures c.put_handle.ensures (c.put_sooner.ensures.rising holding.index.rising)
    (c.put_sooner.ensures.tells (search (rules, room)) holding.index.rising)
    (c.put_sooner.ensures.weights (search (rules, room))) c.put_sooner.ensures.capacity holding
