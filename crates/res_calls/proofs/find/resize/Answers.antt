use Rattle.res_calls.proofs.Cited.{ap, Reference, resized_datum, with_datum, view_open}
use Rattle.res_calls.proofs.Standing.{inside_map, touched_as, reference_put}
use Rattle.res_calls.proofs.find.resize.Goals as goal

pub resize_in-requires : goal.resize_in-requires
resize_in-requires c =
    inside_map view_open c.args.files.now.items c.args.at c.index_mut.result.now c.index_mut.ensures.value c.requires

pub returns-clause-restored : goal.returns-clause-restored
returns-clause-restored c =
    reference_put view_open c.args.files.now.items c.args.at c.index_mut.result.now _ touched_as
    (λ (r : Reference). with_datum (resized_datum c.args.size r.stored.datum) r) c.resize_in.new.file.map
    c.index_mut.ensures.value c.requires c.in_ok-resize_in.ensures.map (ap view_open c.in_ok-resize_in.ensures.touched)
