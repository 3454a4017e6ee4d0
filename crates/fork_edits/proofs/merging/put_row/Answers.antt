use Rattle.fork_edits.proofs.Cited.{◌≡◌, ◌<◌, ◌∙◌, sym, ap, map, length, arith, Some, length-map, place, opened, view_group, place-inside}
use Rattle.fork_edits.proofs.Cited.{put-filled, place-filled, row_group, view_row}
use Rattle.fork_edits.proofs.merging.put_row.Goals.{In_ok-push_ref}
use Rattle.fork_edits.proofs.merging.put_row.Goals as goal

pub index_mut-requires : goal.index_mut-requires
index_mut-requires c =
    let inside : c.in_ok-place.place < length (map view_group c.place_of.new.groups.items) =
    place-inside c.kind_of-kind.result (map view_group c.place_of.new.groups.items) c.in_ok-place.place
    c.in_ok-place.ensures.at in
    let same : length (map view_group c.place_of.new.groups.items) ≡ length c.place_of.new.groups.items =
    length-map c.place_of.new.groups.items view_group in
    let size : length c.place_of.new.groups.items ≡ c.place_of.new.groups.len = sym c.place_of.new.groups.ok.0 in
    omega arith

opens : (c : In_ok-push_ref) → map view_group c.place_of.new.groups.items
    ≡ opened (row_group (view_row c.args.row.now)).kind (map view_group c.args.groups.now.items)
opens c = c.in_ok-place.ensures.groups
    ∙ ap (λ k. opened k (map view_group c.args.groups.now.items)) c.kind_of-kind.ensures

found : (c : In_ok-push_ref) → place (row_group (view_row c.args.row.now)).kind (map view_group c.place_of.new.groups.items)
    ≡ Some c.in_ok-place.place
found c = ap (λ k. place k (map view_group c.place_of.new.groups.items)) (sym c.kind_of-kind.ensures)
    ∙ c.in_ok-place.ensures.at

pub returns-clause-places : goal.returns-clause-places
returns-clause-places c =
    let at = (goal.at.returns-clause-places c).In_ok-push_ref in
    λ q. c.in_ok-place.ensures.places q ∙ sym (place-filled view_group (row_group (view_row c.args.row.now))
    (map view_group c.args.groups.now.items) c.place_of.new.groups.items c.in_ok-place.place c.index_mut.result.now
    c.push_ref.new.group (opens at) (found at) c.index_mut.ensures.value c.in_ok-push_ref.ensures.joined q)

pub returns-clause-groups : goal.returns-clause-groups
returns-clause-groups c =
    let at = (goal.at.returns-clause-groups c).In_ok-push_ref in
    put-filled view_group (row_group (view_row c.args.row.now)) (map view_group c.args.groups.now.items)
    c.place_of.new.groups.items c.in_ok-place.place c.index_mut.result.now c.push_ref.new.group (opens at) (found at)
    c.index_mut.ensures.value c.in_ok-push_ref.ensures.joined
