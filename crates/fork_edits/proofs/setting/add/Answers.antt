use Rattle.fork_edits.proofs.Cited.{◌≡◌, ◌∙◌, sym, ap, map, false, ℕ, list_any, position, on_ok_weaker, big_number, is_of, view_ref}
use Rattle.fork_edits.proofs.Cited.{view_group, one_group}
use Rattle.fork_format.specs.declared.content.Group.{Group as StoredGroup}
use Rattle.fork_edits.proofs.Changing.{none_passes, put_behind}
use Rattle.fork_edits.proofs.setting.add.Goals as goal

pub returns-in-None-clause-added : goal.returns-in-None-clause-added
returns-in-None-clause-added c =
    let kind = big_number 4 c.args.ty.0 in
    let none : list_any (is_of kind) (map view_group c.args.groups.now.items) ≡ false =
    ap (λ (k : ℕ). list_any (is_of k) (map view_group c.args.groups.now.items)) (sym c.kind_of-kind.ensures)
    ∙ none_passes view_group (is_of c.kind_of-kind.result) c.args.groups.now.items
    (ap (position (λ (g : StoredGroup). is_of c.kind_of-kind.result (view_group g))) (sym c.as_slice.ensures.value)
    ∙ sym c.in-None.ensures) in
    on_ok_weaker c.open.result
    (λ e. e ∙ sym (put_behind (one_group kind (view_ref c.args.r)) (map view_group c.args.groups.now.items) none))
    c.open.ensures.opened
