use Rattle.fork_edits.proofs.Cited.{◌∙◌, sym, ap, map, position, view_group, has_resource, group_renamed, view_renaming}
use Rattle.fork_format.specs.declared.content.Group.{Group as StoredGroup}
use Rattle.fork_edits.proofs.Changing.{changed_first, first_unchanged, none_passes}
use Rattle.fork_edits.proofs.renaming.rename_in.Goals as goal

pub returns-in-Some : goal.returns-in-Some
returns-in-Some c = changed_first view_group (has_resource c.args.key.now.kind c.args.key.now.id)
    (group_renamed c.args.key.now.id (view_renaming c.args.new.now)) c.args.groups.now.items c.in-Some.at
    c.index_mut.result.now c.rename_of.new.group
    (ap (position (λ (g : StoredGroup). has_resource c.args.key.now.kind c.args.key.now.id (view_group g)))
    (sym c.as_slice.ensures.value) ∙ sym c.in-Some.ensures) c.index_mut.ensures.value c.rename_of.ensures

pub returns-in-None : goal.returns-in-None
returns-in-None c = sym (first_unchanged (has_resource c.args.key.now.kind c.args.key.now.id)
    (group_renamed c.args.key.now.id (view_renaming c.args.new.now)) (map view_group c.args.groups.now.items)
    (none_passes view_group (has_resource c.args.key.now.kind c.args.key.now.id) c.args.groups.now.items
    (ap (position (λ (g : StoredGroup). has_resource c.args.key.now.kind c.args.key.now.id (view_group g)))
    (sym c.as_slice.ensures.value) ∙ sym c.in-None.ensures)))
