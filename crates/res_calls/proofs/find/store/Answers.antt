use Rattle.res_calls.proofs.Cited.{Some, refl, stored_anew, view_open}
use Rattle.res_calls.proofs.Standing.{inside_map, mapped, reference_put}
use Rattle.res_calls.proofs.find.store.Goals as goal

pub store-requires : goal.store-requires
store-requires c =
    inside_map view_open c.args.files.now.items c.args.at c.index_mut.result.now c.index_mut.ensures.value c.requires

pub returns : goal.returns
returns c =
    reference_put view_open c.args.files.now.items c.args.at c.index_mut.result.now _ mapped
    (stored_anew (Some c.args.datum.items)) c.store.new.self c.index_mut.ensures.value c.requires c.store.ensures refl
