use Rattle.fork_edits.proofs.Cited.{◌∙◌, sym, ap, map, view_group, has_id, others, has_resource, group_without}
use Rattle.fork_edits.proofs.Taking.{replaced_first, emptied_first, group_left, group_gone}
use Rattle.fork_edits.proofs.removing.cut_at.Goals as goal

pub returns-then-is_empty : goal.returns-then-is_empty
returns-then-is_empty c = ap (map view_group) c.remove-cut.ensures.items
    ∙ emptied_first view_group (has_resource c.args.key.now.kind c.args.key.now.id) (group_without c.args.key.now.id)
    c.args.groups.now.items c.args.at c.index_mut.result.now c.cut_of-is_empty.new.group c.requires
    c.index_mut.ensures.value (group_gone (view_group c.index_mut.result.now) (view_group c.cut_of-is_empty.new.group)
    (others (has_id c.args.key.now.id) (view_group c.index_mut.result.now).refs) c.cut_of-is_empty.ensures.cut
    (sym c.cut_of-is_empty.ensures.emptied ∙ c.if-is_empty.true))

pub returns-else-is_empty : goal.returns-else-is_empty
returns-else-is_empty c = replaced_first view_group (has_resource c.args.key.now.kind c.args.key.now.id)
    (group_without c.args.key.now.id) c.args.groups.now.items c.args.at c.index_mut.result.now
    c.cut_of-is_empty.new.group c.requires c.index_mut.ensures.value (group_left (view_group c.index_mut.result.now)
    (view_group c.cut_of-is_empty.new.group) (others (has_id c.args.key.now.id) (view_group c.index_mut.result.now).refs)
    c.cut_of-is_empty.ensures.cut (sym c.cut_of-is_empty.ensures.emptied ∙ c.if-is_empty.false))
