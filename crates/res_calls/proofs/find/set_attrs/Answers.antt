use Rattle.res_calls.proofs.Cited.{refl, with_attrs, view_open}
use Rattle.res_calls.proofs.Standing.{inside_map, mapped, reference_put}
use Rattle.res_calls.proofs.find.set_attrs.Goals as goal

pub set_attrs-requires : goal.set_attrs-requires
set_attrs-requires c =
    inside_map view_open c.args.files.now.items c.args.at c.index_mut.result.now c.index_mut.ensures.value c.requires

pub returns : goal.returns
returns c =
    reference_put view_open c.args.files.now.items c.args.at c.index_mut.result.now _ mapped (with_attrs c.args.attrs.0)
    c.set_attrs.new.self c.index_mut.ensures.value c.requires c.set_attrs.ensures refl
