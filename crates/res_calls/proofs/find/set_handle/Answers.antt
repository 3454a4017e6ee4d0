use Rattle.res_calls.proofs.Cited.{refl, with_handle, view_open}
use Rattle.res_calls.proofs.Standing.{inside_map, mapped, reference_put}
use Rattle.res_calls.proofs.find.set_handle.Goals as goal

pub set_handle-requires : goal.set_handle-requires
set_handle-requires c =
    inside_map view_open c.args.files.now.items c.args.at c.index_mut.result.now c.index_mut.ensures.value c.requires

pub returns : goal.returns
returns c =
    reference_put view_open c.args.files.now.items c.args.at c.index_mut.result.now _ mapped (with_handle c.args.handle)
    c.set_handle.new.self c.index_mut.ensures.value c.requires c.set_handle.ensures refl
