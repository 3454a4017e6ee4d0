use Rattle.fork_edits.proofs.Cited.{◌≡◌, ◌∙◌, sym, ap, map, true, false, ℕ, List, list_any, position, on_ok_weaker, Ref, Group, put}
use Rattle.fork_edits.proofs.Cited.{view_ref, view_group, Change, has_resource, replaced, added, one_group, view_change}
use Rattle.fork_format.specs.declared.content.Group.{Group as StoredGroup}
use Rattle.fork_edits.proofs.Changing.{some_passes, none_passes, chosen, left}
use Rattle.fork_edits.proofs.setting.set_in.Goals as goal

pub returns-in-Some-clause-set : goal.returns-in-Some-clause-set
returns-in-Some-clause-set c =
    let test = has_resource c.args.key.now.kind c.args.key.now.id in
    let change : Change = view_change c.args.change.now in
    let old : List Group = map view_group c.args.groups.now.items in
    let some : list_any test old ≡ true = some_passes view_group test c.in-Some.at c.args.groups.now.items
    (ap (position (λ (g : StoredGroup). test (view_group g))) (sym c.as_slice.ensures.value) ∙ sym c.in-Some.ensures) in
    c.replace.ensures ∙ chosen (list_any test old) (replaced c.args.key.now.kind c.args.key.now.id change old)
    (added c.args.key.now.kind c.args.key.now.id change old) some

pub returns-in-None-clause-set : goal.returns-in-None-clause-set
returns-in-None-clause-set c =
    let test = has_resource c.args.key.now.kind c.args.key.now.id in
    let change : Change = view_change c.args.change.now in
    let old : List Group = map view_group c.args.groups.now.items in
    let none : list_any test old ≡ false = none_passes view_group test c.args.groups.now.items
    (ap (position (λ (g : StoredGroup). test (view_group g))) (sym c.as_slice.ensures.value) ∙ sym c.in-None.ensures) in
    on_ok_weaker c.add.result (λ e. e ∙ ap (λ (k : ℕ). put (one_group k (view_ref c.new_ref.result)) old) (sym c.requires)
    ∙ ap (λ (r : Ref). put (one_group c.args.key.now.kind r) old) c.new_ref.ensures
    ∙ left (list_any test old) (replaced c.args.key.now.kind c.args.key.now.id change old)
    (added c.args.key.now.kind c.args.key.now.id change old) none) c.add.ensures.added
