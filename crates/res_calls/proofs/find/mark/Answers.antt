use Rattle.res_calls.proofs.Cited.{ap, with_attrs, view_open}
use Rattle.res_calls.proofs.Standing.{inside_map, touched_as, reference_put}
use Rattle.res_calls.proofs.find.mark.Goals as goal

pub mark_in-requires : goal.mark_in-requires
mark_in-requires c =
    inside_map view_open c.args.files.now.items c.args.at c.index_mut.result.now c.index_mut.ensures.value c.requires

pub returns : goal.returns
returns c =
    reference_put view_open c.args.files.now.items c.args.at c.index_mut.result.now _ touched_as
    (with_attrs c.args.attrs.0) c.mark_in.new.file.map c.index_mut.ensures.value c.requires c.mark_in.ensures.map
    (ap view_open c.mark_in.ensures.touched)
