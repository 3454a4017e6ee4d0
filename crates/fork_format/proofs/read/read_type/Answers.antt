use Rattle.fork_format.proofs.Cited.{◌≡◌, ◌<◌, ◌∙◌, sym, ap, map, length, arith, Some, length-map, group_at, place, opened, view_group}
use Rattle.fork_format.proofs.Placing.{place-inside, put-filled, place-filled}
use Rattle.fork_format.proofs.read.read_type.Goals.{In_ok-fill}
use Rattle.fork_format.proofs.read.read_type.Goals as goal

pub index_mut-requires : goal.index_mut-requires
index_mut-requires c =
    let inside : c.in_ok-place.place < length (map view_group c.place_of.new.groups.items) =
    place-inside c.kind_at.result (map view_group c.place_of.new.groups.items) c.in_ok-place.place
    c.in_ok-place.ensures.at in
    let same : length (map view_group c.place_of.new.groups.items) ≡ length c.place_of.new.groups.items =
    length-map c.place_of.new.groups.items view_group in
    let size : length c.place_of.new.groups.items ≡ c.place_of.new.groups.len = sym c.place_of.new.groups.ok.0 in
    omega arith

opens : (c : In_ok-fill) → map view_group c.place_of.new.groups.items
    ≡ opened (group_at c.args.bytes.now c.args.at).kind (map view_group c.args.groups.now.items)
opens c = c.in_ok-place.ensures.groups
    ∙ ap (λ k. opened k (map view_group c.args.groups.now.items)) c.kind_at.ensures

found : (c : In_ok-fill) → place (group_at c.args.bytes.now c.args.at).kind (map view_group c.place_of.new.groups.items)
    ≡ Some c.in_ok-place.place
found c = ap (λ k. place k (map view_group c.place_of.new.groups.items)) (sym c.kind_at.ensures)
    ∙ c.in_ok-place.ensures.at

pub returns-clause-places : goal.returns-clause-places
returns-clause-places c =
    let at = (goal.at.returns-clause-places c).In_ok-fill in
    λ q. c.in_ok-place.ensures.places q ∙ sym (place-filled view_group (group_at c.args.bytes.now c.args.at)
    (map view_group c.args.groups.now.items) c.place_of.new.groups.items c.in_ok-place.place c.index_mut.result.now
    c.fill.new.group (opens at) (found at) c.index_mut.ensures.value c.in_ok-fill.ensures q)

pub returns-clause-groups : goal.returns-clause-groups
returns-clause-groups c =
    let at = (goal.at.returns-clause-groups c).In_ok-fill in
    put-filled view_group (group_at c.args.bytes.now c.args.at) (map view_group c.args.groups.now.items)
    c.place_of.new.groups.items c.in_ok-place.place c.index_mut.result.now c.fill.new.group (opens at) (found at)
    c.index_mut.ensures.value c.in_ok-fill.ensures
