use Rattle.res_map.proofs.Cited.{on_ok_weaker, on_err_weaker, is_printed, Reference, is_resource, with_datum, resized_datum, view_reference}
use Rattle.res_map.proofs.Splitting.{set-seen_at, same-seen_at}
use Rattle.res_map.proofs.Order.{ordered-seen_at}
use Rattle.res_map.proofs.Rows.{index-seen_at, id-alike, name-alike}
use Rattle.res_map.proofs.Handles.{holding-seen_at}
use Rattle.res_map.proofs.changing.put_size.Goals as goal

pub returns-clause-resized : goal.returns-clause-resized
returns-clause-resized c = on_ok_weaker c.resize.result (set-seen_at view_reference
    (λ (r : Reference). with_datum (resized_datum c.args.size r.stored.datum) r) c.args.refs.now.items
    c.args.index c.index_mut.result.now c.resize.new.r c.requires c.index_mut.ensures.value) c.resize.ensures.resized

pub returns-clause-kept : goal.returns-clause-kept
returns-clause-kept c = on_err_weaker c.resize.result (same-seen_at view_reference c.args.refs.now.items c.args.index
    c.index_mut.result.now c.resize.new.r c.requires c.index_mut.ensures.value) c.resize.ensures.kept

pub returns-clause-ordered : goal.returns-clause-ordered
returns-clause-ordered c = ordered-seen_at c.args.refs.now.items c.args.index c.index_mut.result.now c.resize.new.r
    c.requires c.index_mut.ensures.value c.resize.ensures.kind

pub returns-clause-indexed : goal.returns-clause-indexed
returns-clause-indexed c = index-seen_at is_resource c.args.refs.now.items c.args.index c.index_mut.result.now
    c.resize.new.r c.requires c.index_mut.ensures.value (id-alike (view_reference c.index_mut.result.now)
    (view_reference c.resize.new.r) c.resize.ensures.kind c.resize.ensures.id)

pub returns-clause-named : goal.returns-clause-named
returns-clause-named c = index-seen_at is_printed c.args.refs.now.items c.args.index c.index_mut.result.now
    c.resize.new.r c.requires c.index_mut.ensures.value (name-alike (view_reference c.index_mut.result.now)
    (view_reference c.resize.new.r) c.resize.ensures.kind c.resize.ensures.name)

pub returns-clause-held : goal.returns-clause-held
returns-clause-held c = holding-seen_at c.args.refs.now.items c.args.index c.index_mut.result.now c.resize.new.r
    c.requires c.index_mut.ensures.value c.resize.ensures.handle
