use Rattle.fork_edits.proofs.Cited.{view_group, has_resource, group_changed, view_change}
use Rattle.fork_edits.proofs.Changing.{changed_first}
use Rattle.fork_edits.proofs.setting.replace.Goals as goal

pub returns : goal.returns
returns c = changed_first view_group (has_resource c.args.key.now.kind c.args.key.now.id)
    (group_changed c.args.key.now.id (view_change c.args.change.now)) c.args.groups.now.items c.args.at
    c.index_mut.result.now c.change_group.new.group c.requires c.index_mut.ensures.value c.change_group.ensures
