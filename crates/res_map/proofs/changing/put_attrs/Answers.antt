use Rattle.res_map.proofs.Cited.{with_attrs, view_reference}
use Rattle.res_map.proofs.Splitting.{set-seen_at}
use Rattle.res_map.proofs.changing.put_attrs.Goals as goal

pub returns : goal.returns
returns c = set-seen_at view_reference (with_attrs c.args.attrs.0) c.args.refs.now.items c.args.index
    c.index_mut.result.now c.mark.new.r c.requires c.index_mut.ensures.value c.mark.ensures
