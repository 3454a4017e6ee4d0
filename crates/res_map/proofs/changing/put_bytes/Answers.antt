use Rattle.res_map.proofs.Cited.{on_ok_weaker, on_err_weaker, written, is_printed, Reference, is_resource, with_datum, view_reference}
use Rattle.res_map.proofs.Splitting.{set-seen_at, same-seen_at}
use Rattle.res_map.proofs.Order.{ordered-seen_at}
use Rattle.res_map.proofs.Rows.{index-seen_at, id-alike, name-alike}
use Rattle.res_map.proofs.Handles.{holding-seen_at}
use Rattle.res_map.proofs.changing.put_bytes.Goals as goal

pub returns-clause-written : goal.returns-clause-written
returns-clause-written c = on_ok_weaker c.write.result (set-seen_at view_reference
    (λ (r : Reference). with_datum (written c.args.from c.args.bytes.now r.stored.datum) r) c.args.refs.now.items
    c.args.index c.index_mut.result.now c.write.new.r c.requires.inside c.index_mut.ensures.value) c.write.ensures.written

pub returns-clause-kept : goal.returns-clause-kept
returns-clause-kept c = on_err_weaker c.write.result (same-seen_at view_reference c.args.refs.now.items c.args.index
    c.index_mut.result.now c.write.new.r c.requires.inside c.index_mut.ensures.value) c.write.ensures.kept

pub returns-clause-ordered : goal.returns-clause-ordered
returns-clause-ordered c = ordered-seen_at c.args.refs.now.items c.args.index c.index_mut.result.now c.write.new.r
    c.requires.inside c.index_mut.ensures.value c.write.ensures.kind

pub returns-clause-indexed : goal.returns-clause-indexed
returns-clause-indexed c = index-seen_at is_resource c.args.refs.now.items c.args.index c.index_mut.result.now
    c.write.new.r c.requires.inside c.index_mut.ensures.value (id-alike (view_reference c.index_mut.result.now)
    (view_reference c.write.new.r) c.write.ensures.kind c.write.ensures.id)

pub returns-clause-named : goal.returns-clause-named
returns-clause-named c = index-seen_at is_printed c.args.refs.now.items c.args.index c.index_mut.result.now
    c.write.new.r c.requires.inside c.index_mut.ensures.value (name-alike (view_reference c.index_mut.result.now)
    (view_reference c.write.new.r) c.write.ensures.kind c.write.ensures.name)

pub returns-clause-held : goal.returns-clause-held
returns-clause-held c = holding-seen_at c.args.refs.now.items c.args.index c.index_mut.result.now c.write.new.r
    c.requires.inside c.index_mut.ensures.value c.write.ensures.handle
