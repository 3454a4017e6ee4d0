use Rattle.res_map.proofs.Cited.{with_handle, view_reference}
use Rattle.res_map.proofs.Splitting.{set-seen_at}
use Rattle.res_map.proofs.changing.put_handle.Goals as goal

pub returns : goal.returns
returns c = set-seen_at view_reference (with_handle c.args.handle) c.args.refs.now.items c.args.index
    c.index_mut.result.now c.hold.new.r c.requires c.index_mut.ensures.value c.hold.ensures
