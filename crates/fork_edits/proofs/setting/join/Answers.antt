use Rattle.fork_edits.proofs.Cited.{◌∙◌, sym, map, on_ok_weaker, on_err_weaker, is_of, view_ref, view_group, one_group, with_one}
use Rattle.fork_edits.proofs.Changing.{changed_first, unchanged_at, some_passes, put_joined}
use Rattle.fork_edits.proofs.setting.join.Goals as goal

pub returns-clause-joined : goal.returns-clause-joined
returns-clause-joined c = on_ok_weaker c.push_ref.result
    (λ e. changed_first view_group (is_of c.args.kind) (with_one (view_ref c.args.r)) c.args.groups.now.items c.args.at
    c.index_mut.result.now c.push_ref.new.group c.requires c.index_mut.ensures.value e
    ∙ sym (put_joined (one_group c.args.kind (view_ref c.args.r)) (map view_group c.args.groups.now.items)
    (some_passes view_group (is_of c.args.kind) c.args.at c.args.groups.now.items c.requires)))
    c.push_ref.ensures.joined

pub returns-clause-kept : goal.returns-clause-kept
returns-clause-kept c = on_err_weaker c.push_ref.result
    (unchanged_at view_group c.args.groups.now.items c.args.at c.index_mut.result.now c.push_ref.new.group
    c.index_mut.ensures.value) c.push_ref.ensures.kept
