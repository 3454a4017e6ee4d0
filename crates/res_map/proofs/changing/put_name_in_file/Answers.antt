use Rattle.res_map.proofs.Cited.{slice_get, ◌≡◌, ap, sym, subst, refl, rules, map, ◌<◌, ℕ, List, IfSome, to_z, of_z, w16, length-map}
use Rattle.res_map.proofs.Cited.{is_resource, is_printed, named_row, view_reference, StoredReference}
use Rattle.res_map.proofs.Rows.{index-same, renamed-in-names}
use Rattle.res_map.proofs.changing.put_name_in_file.Goals as goal

pub returns-clause-indexed : goal.returns-clause-indexed
returns-clause-indexed c = λ index.
    c.put_name_told.ensures.indexed (index-same is_resource _ _ _ _ c.in_ok-reserve.ensures.items refl index)

pub returns-clause-named : goal.returns-clause-named
returns-clause-named c = λ index.
    renamed-in-names c.reserve-2.new.self.items c.tell_name.new.names.items c.named_row_at-old.result c.args.index
    (to_z w16 (of_z w16 c.args.id)) c.args.text.now (map view_reference c.args.refs.now.items)
    (map view_reference c.put_name_told.new.refs.items) (map view_reference c.as_slice-2.result.now)
    (subst (λ (n : ℕ). c.args.index < n) (sym (length-map c.args.refs.now.items view_reference)) c.requires.inside)
    (subst (λ (l : List StoredReference). IfSome (slice_get (map view_reference l) c.args.index)
    (λ r. c.named_row_at-old.result ≡ named_row c.args.index r.kind r.stored.name))
    c.as_slice.ensures.value c.named_row_at-old.ensures) c.put_name_told.ensures.renamed
    (ap (map view_reference) c.as_slice-2.ensures.value) (c.tell_name.ensures (search rules))
    (index-same is_printed _ _ _ _ c.in_ok-reserve-2.ensures.items refl index)
