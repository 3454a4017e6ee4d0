use Rattle.res_map.proofs.Cited.{slice_get, vec_capacity, ◌≡◌, ap, sym, subst, map, rules, ℕ, ◌<◌, List, IfSome, Option, Some, None}
use Rattle.res_map.proofs.Cited.{length-map, Reference, held_row, view_reference, Row, StoredReference}
use Rattle.res_map.proofs.Handles.{holding-let-go, holding-unheld}
use Rattle.res_map.proofs.holding.take_handle.Goals as goal

pub returns-in-Some-clause-held : goal.returns-in-Some-clause-held
returns-in-Some-clause-held c = λ holding.
    let some : c.held_row_at-row.result ≡ Some c.in-Some.row = search rules in
    let old = map view_reference c.args.refs.now.items in
    holding-let-go c.args.rows.now.items c.let_go.new.rows.items
    (vec_capacity c.args.rows.now) (vec_capacity c.let_go.new.rows) c.in-Some.row c.args.index
    old (map view_reference c.put_handle.new.refs.items) (map view_reference c.as_slice-in-Some.result.now)
    (subst (λ (n : ℕ). c.args.index < n) (sym (length-map c.args.refs.now.items view_reference)) c.requires)
    (subst (λ (o : Option Row). IfSome (slice_get old c.args.index) (λ (r : Reference). o ≡ held_row c.args.index r.handle)) some
    (subst (λ (l : List StoredReference). IfSome (slice_get (map view_reference l) c.args.index)
    (λ r. c.held_row_at-row.result ≡ held_row c.args.index r.handle))
    c.as_slice.ensures.value c.held_row_at-row.ensures))
    c.put_handle.ensures (ap (map view_reference) c.as_slice-in-Some.ensures.value)
    (c.let_go.ensures.rising holding.index.rising) (c.let_go.ensures.tells holding.index.rising)
    (c.let_go.ensures.each holding.index.rising) c.let_go.ensures.capacity holding

pub returns-in_default-clause-held : goal.returns-in_default-clause-held
returns-in_default-clause-held c = λ holding.
    let none : c.held_row_at-row.result ≡ None = search rules in
    let old = map view_reference c.args.refs.now.items in
    holding-unheld c.args.rows.now.items (vec_capacity c.args.rows.now) c.args.index
    old (map view_reference c.put_handle.new.refs.items)
    (subst (λ (n : ℕ). c.args.index < n) (sym (length-map c.args.refs.now.items view_reference)) c.requires)
    (subst (λ (o : Option Row). IfSome (slice_get old c.args.index) (λ (r : Reference). o ≡ held_row c.args.index r.handle)) none
    (subst (λ (l : List StoredReference). IfSome (slice_get (map view_reference l) c.args.index)
    (λ r. c.held_row_at-row.result ≡ held_row c.args.index r.handle))
    c.as_slice.ensures.value c.held_row_at-row.ensures))
    c.put_handle.ensures holding
