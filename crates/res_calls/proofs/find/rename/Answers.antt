use Rattle.res_calls.proofs.Cited.{refl, w16, to_z-of_z, renamed, view_open}
use Rattle.res_calls.proofs.Standing.{inside_map, mapped, reference_put}
use Rattle.res_calls.proofs.find.rename.Goals as goal

pub rename-requires : goal.rename-requires
rename-requires c =
    inside_map view_open c.args.files.now.items c.args.at c.index_mut.result.now c.index_mut.ensures.value c.requires

pub returns-clause-renamed : goal.returns-clause-renamed
returns-clause-renamed c =
    let id = to_z-of_z w16 c.args.id c.ranges.id in
    reference_put view_open c.args.files.now.items c.args.at c.index_mut.result.now _ mapped
    (renamed c.args.id c.args.name.now.0.items) c.rename.new.self c.index_mut.ensures.value c.requires
    (rw id at c.in_ok-rename.ensures.renamed) refl
