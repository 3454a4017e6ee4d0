use Rattle.fork_edits.proofs.Cited.{◌∙◌, sym, ap, map, position, view_ref, has_id}
use Rattle.fork_format.specs.declared.content.Ref.{Ref as StoredRef}
use Rattle.fork_edits.proofs.Changing.{none_passes}
use Rattle.fork_edits.proofs.Taking.{removed_first, none_left_out}
use Rattle.fork_edits.proofs.removing.cut_first.Goals as goal

pub returns-in-Some : goal.returns-in-Some
returns-in-Some c = ap (map view_ref) c.remove-cut.ensures.items
    ∙ removed_first view_ref (has_id c.args.key.now.id) c.args.refs.now.items c.in-Some.index c.remove-cut.result
    (ap (position (λ (r : StoredRef). has_id c.args.key.now.id (view_ref r))) (sym c.as_slice.ensures.value)
    ∙ sym c.in-Some.ensures)

pub returns-in-None : goal.returns-in-None
returns-in-None c = sym (none_left_out (has_id c.args.key.now.id) (map view_ref c.args.refs.now.items)
    (none_passes view_ref (has_id c.args.key.now.id) c.args.refs.now.items
    (ap (position (λ (r : StoredRef). has_id c.args.key.now.id (view_ref r))) (sym c.as_slice.ensures.value)
    ∙ sym c.in-None.ensures)))
