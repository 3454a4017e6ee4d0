use Rattle.res_map.proofs.Cited.{Some, stored_anew, view_reference}
use Rattle.res_map.proofs.Splitting.{set-seen_at}
use Rattle.res_map.proofs.changing.put_datum.Goals as goal

pub returns : goal.returns
returns c = set-seen_at view_reference (stored_anew (Some c.args.datum.items)) c.args.refs.now.items c.args.index
    c.index_mut.result.now c.keep.new.r c.requires c.index_mut.ensures.value c.keep.ensures
