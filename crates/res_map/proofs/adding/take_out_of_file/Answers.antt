use Rattle.res_map.proofs.Cited.{slice_get, vec_capacity, ◌≡◌, ◌∙◌, ap, List, IfSome, sym, subst, rules, map, ◌<◌, ℕ, w32, SFits, to_z-of_z}
use Rattle.res_map.proofs.Cited.{length-map, Reference, is_resource, first_place, held_row, is_printed, named_row, view_reference, Row}
use Rattle.res_map.proofs.Cited.{StoredReference}
use Rattle.res_map.proofs.Rows.{named-place, out-of-index, out-of-rows, read-there, row-named}
use Rattle.res_map.proofs.Handles.{held-place, holding-out}
use Rattle.res_map.proofs.adding.take_out_of_file.Goals as goal

pub returns-clause-indexed : goal.returns-clause-indexed
returns-clause-indexed c = λ index.
    let fits : SFits w32 c.row_at-row.result.key = search rules in
    out-of-index c.args.rows.now.items c.leave.new.rows.items c.row_at-row.result c.args.index c.place_of.result
    (map view_reference c.args.refs.now.items) (map view_reference c.take_out.new.refs.items)
    (subst (λ (n : ℕ). c.args.index < n) (sym (length-map c.args.refs.now.items view_reference)) c.requires)
    (subst (λ (l : List StoredReference). IfSome (slice_get (map view_reference l) c.args.index)
    (λ r. c.row_at-row.result ≡ (let x : Row = record { kind = r.kind; key = r.stored.id; place = c.args.index } in x)))
    c.as_slice.ensures.value c.row_at-row.ensures) c.take_out.ensures.references
    (c.place_of.ensures
    ∙ ap (λ i. first_place (is_resource c.row_at-row.result.kind i) (map view_reference c.as_slice-4.result.now))
    (to_z-of_z w32 c.row_at-row.result.key fits)
    ∙ ap (λ l. first_place (is_resource c.row_at-row.result.kind c.row_at-row.result.key) (map view_reference l))
    c.as_slice-4.ensures.value)
    (c.leave.ensures is_resource) index

pub returns-clause-named : goal.returns-clause-named
returns-clause-named c = λ index.
    out-of-rows is_printed (λ (r : Reference). named_row c.args.index r.kind r.stored.name) (row-named c.args.index)
    c.args.names.now.items c.leave_named.new.rows.items c.named_row_at-named.result c.args.index
    (map view_reference c.args.refs.now.items) (map view_reference c.take_out.new.refs.items)
    (map view_reference c.as_slice-5.result.now)
    (subst (λ (n : ℕ). c.args.index < n) (sym (length-map c.args.refs.now.items view_reference)) c.requires)
    (subst (λ (l : List StoredReference). IfSome (slice_get (map view_reference l) c.args.index)
    (λ r. c.named_row_at-named.result ≡ named_row c.args.index r.kind r.stored.name))
    c.as_slice-2.ensures.value c.named_row_at-named.ensures) c.take_out.ensures.references
    (ap (map view_reference) c.as_slice-5.ensures.value) c.leave_named.ensures index

pub returns-clause-held : goal.returns-clause-held
returns-clause-held c = holding-out c.args.held.now.items c.leave_held.new.rows.items (vec_capacity c.args.held.now)
    (vec_capacity c.leave_held.new.rows) c.held_row_at-holder.result c.args.index
    (map view_reference c.args.refs.now.items) (map view_reference c.take_out.new.refs.items)
    (map view_reference c.as_slice-6.result.now)
    (subst (λ (n : ℕ). c.args.index < n) (sym (length-map c.args.refs.now.items view_reference)) c.requires)
    (subst (λ (l : List StoredReference). IfSome (slice_get (map view_reference l) c.args.index)
    (λ r. c.held_row_at-holder.result ≡ held_row c.args.index r.handle))
    c.as_slice-3.ensures.value c.held_row_at-holder.ensures) c.take_out.ensures.references
    (ap (map view_reference) c.as_slice-6.ensures.value) c.leave_held.ensures.held c.leave_held.ensures.capacity

pub leave_named-requires : goal.leave_named-requires
leave_named-requires c = read-there (λ (r : Reference). named_row c.args.index r.kind r.stored.name) c.args.index
    (λ r. named-place c.args.index r.kind r.stored.name) c.named_row_at-named.result
    (map view_reference c.args.refs.now.items)
    (subst (λ (n : ℕ). c.args.index < n) (sym (length-map c.args.refs.now.items view_reference)) c.requires)
    (subst (λ (l : List StoredReference). IfSome (slice_get (map view_reference l) c.args.index)
    (λ r. c.named_row_at-named.result ≡ named_row c.args.index r.kind r.stored.name))
    c.as_slice-2.ensures.value c.named_row_at-named.ensures)

pub leave_held-requires : goal.leave_held-requires
leave_held-requires c = read-there (λ (r : Reference). held_row c.args.index r.handle) c.args.index
    (λ r. held-place c.args.index r.handle) c.held_row_at-holder.result (map view_reference c.args.refs.now.items)
    (subst (λ (n : ℕ). c.args.index < n) (sym (length-map c.args.refs.now.items view_reference)) c.requires)
    (subst (λ (l : List StoredReference). IfSome (slice_get (map view_reference l) c.args.index)
    (λ r. c.held_row_at-holder.result ≡ held_row c.args.index r.handle))
    c.as_slice-3.ensures.value c.held_row_at-holder.ensures)
