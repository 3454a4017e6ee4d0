use Rattle.res_calls.proofs.Cited.{ap, view_open}
use Rattle.res_calls.proofs.Standing.{inside_map, touched_as, reference_removed}
use Rattle.res_calls.proofs.find.take_out.Goals as goal

pub remove_in-requires : goal.remove_in-requires
remove_in-requires c =
    inside_map view_open c.args.files.now.items c.args.at c.index_mut.result.now c.index_mut.ensures.value c.requires

pub returns : goal.returns
returns c =
    reference_removed view_open c.args.files.now.items c.args.at c.index_mut.result.now _ touched_as
    c.remove_in.new.file.map c.index_mut.ensures.value c.requires c.remove_in.ensures.map
    (ap view_open c.remove_in.ensures.touched)
