use Rattle.fork_edits.proofs.Cited.{◌∙◌, sym, ap, map, position, view_ref, has_id, renamed, view_renaming}
use Rattle.fork_format.specs.declared.content.Ref.{Ref as StoredRef}
use Rattle.fork_edits.proofs.Changing.{changed_first, first_unchanged, none_passes}
use Rattle.fork_edits.proofs.renaming.rename_first.Goals as goal

pub returns-in-Some : goal.returns-in-Some
returns-in-Some c = changed_first view_ref (has_id c.args.key.now.id) (renamed (view_renaming c.args.new.now))
    c.args.refs.now.items c.in-Some.index c.index.result.now c.renamed_ref-renamed.result
    (ap (position (λ (r : StoredRef). has_id c.args.key.now.id (view_ref r))) (sym c.as_slice.ensures.value)
    ∙ sym c.in-Some.ensures) c.index.ensures c.renamed_ref-renamed.ensures

pub returns-in-None : goal.returns-in-None
returns-in-None c = sym (first_unchanged (has_id c.args.key.now.id) (renamed (view_renaming c.args.new.now))
    (map view_ref c.args.refs.now.items) (none_passes view_ref (has_id c.args.key.now.id) c.args.refs.now.items
    (ap (position (λ (r : StoredRef). has_id c.args.key.now.id (view_ref r))) (sym c.as_slice.ensures.value)
    ∙ sym c.in-None.ensures)))
