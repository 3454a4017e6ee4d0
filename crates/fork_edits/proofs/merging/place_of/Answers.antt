use Rattle.fork_edits.proofs.Cited.{◌≡◌, ◌∙◌, ◌++◌, ◌∷◌, [], sym, ap, map, length, None, cond, Some, List, nat_cmp, is_eq, get, length-map}
use Rattle.fork_edits.proofs.Cited.{Group, place, empty, view_group, opened-known, opened-new, place-new, view_new, place-own}
use Rattle.fork_edits.proofs.merging.place_of.Goals.{In_ok-insert}
use Rattle.fork_edits.proofs.merging.place_of.Goals as goal

pub returns-in-Some-clause-groups : goal.returns-in-Some-clause-groups
returns-in-Some-clause-groups c = sym (opened-known c.args.kind (map view_group c.args.groups.now.items)
    c.in-Some.place.now (sym (c.requires.places c.args.kind) ∙ sym c.in-Some.ensures.value))

none : (c : In_ok-insert) → place c.args.kind (map view_group c.args.groups.now.items) ≡ None
none c = sym (c.requires.places c.args.kind) ∙ sym c.in_default.ensures.value

pushed : (c : In_ok-insert)
    → map view_group c.push.new.self.items ≡ map view_group c.args.groups.now.items ++ empty c.args.kind ∷ []
pushed c = view_new c.args.groups.now.items _ _ c.args.kind c.in_ok-push.ensures.items (sym c.requires.kind)
    c.new.ensures.items

size : (c : In_ok-insert) → length (map view_group c.args.groups.now.items) ≡ c.len-place.result
size c = length-map c.args.groups.now.items view_group ∙ sym c.args.groups.now.ok.0 ∙ sym c.len-place.ensures

pub returns-clause-places : goal.returns-clause-places
returns-clause-places c =
    let at = (goal.at.returns-clause-places c).In_ok-insert in
    let gs : List Group = map view_group c.args.groups.now.items in
    let long : length gs ≡ c.len-place.result = size at in
    λ q.
    let known : place q gs ≡ get nat_cmp c.args.places.now q = sym (c.requires.places q) in
    let new : place q (map view_group c.push.new.self.items)
    ≡ cond (is_eq (nat_cmp c.args.kind q)) (Some (length gs)) (place q gs) =
    ap (place q) (pushed at) ∙ place-new q c.args.kind gs (none at) in
    c.in_ok-insert.ensures.updates.0 q ∙ cc

pub returns-clause-groups : goal.returns-clause-groups
returns-clause-groups c =
    let at = (goal.at.returns-clause-groups c).In_ok-insert in
    pushed at ∙ sym (opened-new c.args.kind (map view_group c.args.groups.now.items) (none at))

pub returns-clause-at : goal.returns-clause-at
returns-clause-at c =
    let at = (goal.at.returns-clause-at c).In_ok-insert in
    ap (place c.args.kind) (pushed at)
    ∙ place-own c.args.kind (map view_group c.args.groups.now.items) (none at) ∙ ap Some (size at)
