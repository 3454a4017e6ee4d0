use Rattle.fork_edits.proofs.Cited.{◌∙◌, sym, ap, map, position, view_group, has_resource, group_without}
use Rattle.fork_format.specs.declared.content.Group.{Group as StoredGroup}
use Rattle.fork_edits.proofs.Changing.{none_passes}
use Rattle.fork_edits.proofs.Taking.{none_replaced}
use Rattle.fork_edits.proofs.removing.cut_in.Goals as goal

pub returns-in-None : goal.returns-in-None
returns-in-None c = sym (none_replaced (has_resource c.args.key.now.kind c.args.key.now.id) (group_without c.args.key.now.id)
    (map view_group c.args.groups.now.items)
    (none_passes view_group (has_resource c.args.key.now.kind c.args.key.now.id) c.args.groups.now.items
    (ap (position (λ (g : StoredGroup). has_resource c.args.key.now.kind c.args.key.now.id (view_group g)))
    (sym c.as_slice.ensures.value) ∙ sym c.in-None.ensures)))
