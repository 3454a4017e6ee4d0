use Rattle.res_map.proofs.Cited.{slice_get, [], ◌≡◌, ◌∙◌, ap, List, IfSome, sym, subst, rules, refl, map, ◌<◌, ℕ, w16, w32, SFits, to_z}
use Rattle.res_map.proofs.Cited.{of_z, sfits_widen, to_z-of_z, length-map, Map, Reference, is_resource, renamed, first_place}
use Rattle.res_map.proofs.Cited.{view_reference, Row, StoredReference}
use Rattle.res_map.proofs.Order.{ordered-changed}
use Rattle.res_map.proofs.Rows.{renamed-in-index}
use Rattle.res_map.proofs.Handles.{holding-set}
use Rattle.res_map.proofs.changing.put_name_told.Goals as goal

pub returns-clause-indexed : goal.returns-clause-indexed
returns-clause-indexed c =
    let old = c.row_at-old.result in
    let own : to_z w16 (of_z w16 c.args.id) ≡ c.args.id = to_z-of_z w16 c.args.id c.ranges.id in
    let fits : SFits w32 old.key = search rules in
    renamed-in-index c.args.rows.now.items c.enter_renamed.new.rows.items
    (record { kind = old.kind; key = to_z w32 (of_z w32 (to_z w16 (of_z w16 c.args.id))); place = old.place }) old c.args.index
    (to_z w16 (of_z w16 c.args.id)) (to_z w32 (of_z w32 old.key)) c.args.text.now
    c.place_of-first.result (map view_reference c.args.refs.now.items) (map view_reference c.put_name.new.refs.items)
    (subst (λ (n : ℕ). c.args.index < n) (sym (length-map c.args.refs.now.items view_reference)) c.requires.inside)
    (subst (λ (l : List StoredReference). IfSome (slice_get (map view_reference l) c.args.index)
    (λ r. old ≡ (let x : Row = record { kind = r.kind; key = r.stored.id; place = c.args.index } in x)))
    c.as_slice.ensures.value c.row_at-old.ensures)
    c.put_name.ensures refl
    (ap (λ i. to_z w32 (of_z w32 i)) own ∙ to_z-of_z w32 c.args.id (sfits_widen tt c.ranges.id) ∙ sym own) refl (to_z-of_z w32 old.key fits)
    (c.place_of-first.ensures ∙ ap (λ l. first_place (is_resource old.kind (to_z w32 (of_z w32 old.key))) (map view_reference l))
    c.as_slice-2.ensures.value) (c.enter_renamed.ensures c.requires.room is_resource)

pub returns-clause-ordered : goal.returns-clause-ordered
returns-clause-ordered c = λ kinds. ordered-changed
    (renamed (to_z w16 (of_z w16 c.args.id)) c.args.text.now) (λ (r : Reference). refl) kinds
    (map view_reference c.args.refs.now.items) (map view_reference c.put_name.new.refs.items) c.args.index
    (subst (λ (n : ℕ). c.args.index < n) (sym (length-map c.args.refs.now.items view_reference)) c.requires.inside)
    c.put_name.ensures

pub returns-clause-held : goal.returns-clause-held
returns-clause-held c = λ rows capacity. holding-set
    (renamed (to_z w16 (of_z w16 c.args.id)) c.args.text.now) (λ (r : Reference). refl) rows capacity
    (let m : Map = record { area = []; attrs = 0; references = map view_reference c.args.refs.now.items } in m)
    (map view_reference c.args.refs.now.items) (map view_reference c.put_name.new.refs.items) c.args.index refl
    (subst (λ (n : ℕ). c.args.index < n) (sym (length-map c.args.refs.now.items view_reference)) c.requires.inside)
    c.put_name.ensures
